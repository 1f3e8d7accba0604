use Rattle.pb_show.specs.MessageText.{bytes_text}
use Rattle.pb_show.proofs.SpelledLemmas.{or_dash-none, or_dash-some}
use Rattle.pb_show.proofs.value.push_bytes.Goals as goal

pub returns-then-is_empty : goal.returns-then-is_empty
unfolding bytes_text
returns-then-is_empty g c = or_dash-none c.is_empty.result _ _ _ _ c.is_empty.ensures c.if-is_empty.true c.push.ensures

pub returns : goal.returns
unfolding bytes_text
returns g c = or_dash-some c.is_empty.result _ _ _ _ c.is_empty.ensures c.if-is_empty.false c.push_hex.ensures

use Rattle.pb_show.proofs.SpelledLemmas.{or_dash-none, or_dash-some}
use Rattle.pb_show.proofs.value.push_name.Goals as goal

pub returns-then-is_empty : goal.returns-then-is_empty
returns-then-is_empty g c = or_dash-none c.is_empty.result _ _ _ _ c.is_empty.ensures c.if-is_empty.true c.push.ensures

pub returns : goal.returns
returns g c = or_dash-some c.is_empty.result _ _ _ _ c.is_empty.ensures c.if-is_empty.false c.push_escaped.ensures

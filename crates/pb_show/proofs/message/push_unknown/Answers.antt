use Rattle.std.proofs.Common.{refl}
use Rattle.std.proofs.lemmas.List.{append-nil}
use Rattle.pb_io.proofs.PageLemmas.{Adds-four}
use Rattle.pb_show.specs.MessageText.{unknown_text}
use Rattle.pb_show.proofs.message.push_unknown.Goals as goal

pub returns : goal.returns
unfolding unknown_text
returns g c = Adds-four _ _ _ _ _ _ _ _ _ _ (simp append-nil refl) c.push.ensures c.push_hex.ensures c.push-2.ensures c.push_bytes.ensures

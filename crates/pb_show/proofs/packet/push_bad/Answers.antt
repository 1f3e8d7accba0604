use Rattle.std.proofs.Common.{append_assoc, refl}
use Rattle.std.proofs.lemmas.List.{append-nil}
use Rattle.pb_io.proofs.PageLemmas.{Adds-three}
use Rattle.pb_show.specs.LineText.{line, outcome_text}
use Rattle.pb_show.proofs.packet.push_bad.Goals as goal

pub returns : goal.returns
unfolding line outcome_text
returns g c = Adds-three _ _ _ _ _ _ _ _ (simp (c.why_name.ensures, append_assoc, append-nil) refl) c.push_place.ensures c.put.ensures c.push.ensures

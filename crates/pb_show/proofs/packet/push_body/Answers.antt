use Rattle.std.proofs.Common.{append_assoc, refl}
use Rattle.std.proofs.lemmas.List.{append-nil}
use Rattle.pb_io.proofs.PageLemmas.{Adds-three}
use Rattle.pb_show.specs.LineText.{line, outcome_text}
use Rattle.pb_show.proofs.packet.push_body.Goals as goal

pub returns-clause-text : goal.returns-clause-text
unfolding line outcome_text
returns-clause-text g c = Adds-three _ _ _ _ _ _ _ _ (simp (append_assoc, append-nil) refl) c.push_place.ensures c.push_content-is_damaged.ensures.text c.push.ensures

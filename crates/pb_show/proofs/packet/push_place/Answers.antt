use Rattle.std.proofs.Common.{append_assoc, refl}
use Rattle.std.proofs.lemmas.List.{append-nil}
use Rattle.pb_io.proofs.PageLemmas.{Adds-two}
use Rattle.pb_show.proofs.packet.push_place.Goals as goal

pub returns : goal.returns
returns g c = Adds-two _ _ _ _ _ _ (simp (append_assoc, append-nil) refl) c.push_decimal.ensures c.push.ensures

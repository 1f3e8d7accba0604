use Rattle.std.proofs.Common.{append_assoc, refl}
use Rattle.std.proofs.lemmas.List.{append-nil}
use Rattle.pb_io.proofs.PageLemmas.{Adds-three}
use Rattle.pb_show.specs.PacketText.{route_text}
use Rattle.pb_show.proofs.packet.push_route.Goals as goal

pub returns : goal.returns
unfolding route_text
returns g c = Adds-three _ _ _ _ _ _ _ _ (simp (c.from.ensures, c.from-2.ensures, append_assoc, append-nil) refl) c.push_decimal.ensures c.push.ensures c.push_decimal-2.ensures

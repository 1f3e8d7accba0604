use Rattle.std.proofs.Common.{append_assoc, refl}
use Rattle.std.proofs.lemmas.List.{append-nil}
use Rattle.pb_io.proofs.PageLemmas.{Adds-three}
use Rattle.pb_show.specs.PacketText.{nodes_text}
use Rattle.pb_show.proofs.packet.push_nodes.Goals as goal

pub returns : goal.returns
unfolding nodes_text
returns g c = Adds-three _ _ _ _ _ _ _ _ (simp (c.get.ensures.value, c.get-2.ensures.value, append_assoc, append-nil) refl) c.push.ensures c.push_route.ensures c.push_hops.ensures

use Rattle.std.proofs.Common.{refl}
use Rattle.pb_io.proofs.PageLemmas.{Adds-three}
use Rattle.pb_show.specs.PacketText.{header_text}
use Rattle.pb_show.proofs.packet.push_header.Goals as goal

pub returns : goal.returns
unfolding header_text
returns g c = Adds-three _ _ _ _ _ _ _ _ refl c.push_phys.ensures c.push_proto.ensures c.push_nodes.ensures

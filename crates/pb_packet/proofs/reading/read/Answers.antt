use Rattle.std.proofs.Common.{arith}
use Rattle.pb_packet.proofs.PacketLemmas.{read_found, read_only}
use Rattle.pb_packet.proofs.reading.read.Goals as goal

pub returns-clause-found : goal.returns-clause-found
returns-clause-found c = read_found _ _ (λ i. omega (arith, c.type_inv.content i)) c.requires c.packet.ensures

pub returns-clause-only : goal.returns-clause-only
returns-clause-only c = read_only _ _ c.packet.ensures

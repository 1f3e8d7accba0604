use Rattle.std.proofs.Common.{sym, ap, ◌∙◌}
use Rattle.pb_packet.specs.Packet.{packet_of}
use Rattle.pb_packet.proofs.PacketLemmas.{packet_of-bytes, ok_same}
use Rattle.pb_packet.proofs.laws.written_is_read.Goals as goal

pub returns-clause-again : goal.returns-clause-again
returns-clause-again c = packet_of-bytes

pub returns-clause-one_text : goal.returns-clause-one_text
returns-clause-one_text c = λ p a b of_a of_b. of_a.bytes ∙ sym of_b.bytes

pub returns-clause-one_packet : goal.returns-clause-one_packet
returns-clause-one_packet c = λ p q content of_p of_q.
    ok_same p q (sym (packet_of-bytes p of_p.valid) ∙ ap packet_of (sym of_p.bytes ∙ of_q.bytes) ∙ packet_of-bytes q of_q.valid)

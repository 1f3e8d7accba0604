use Rattle.std.proofs.Common.{Ok, ap, sym, ◌∙◌}
use Rattle.pb_packet.specs.declared.headers.Packet.{Packet}
use Rattle.pb_packet.specs.Packet.{seen_of}
use Rattle.pb_io.proofs.PageLemmas.{Adds-as, Adds-trans}
use Rattle.pb_show.specs.PacketText.{content_text, packet_text}
use Rattle.pb_show.proofs.packet.push_content.Goals as goal

pub returns-in-Ok-Full-clause-text : goal.returns-in-Ok-Full-clause-text
unfolding content_text packet_text
returns-in-Ok-Full-clause-text g c =
    Adds-as _ _ _ _ (ap content_text (sym (c.in-Ok-Full.ensures.exact ∙ ap (λ (p : Packet). Ok (seen_of p)) c.in-Ok-Full.field-0-is))) (Adds-trans _ _ _ _ _ c.push_header.ensures c.push_message.ensures.text)

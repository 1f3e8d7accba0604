-- A written frame has one content, and the content is read in one way.
use Rattle.std.proofs.Common.{◌≡◌, ℕ, List, [], length, sym, ap, subst}
use Rattle.std.specs.List.{Contains}
use Rattle.pb_frame.specs.Framing.{frame, IsContentSize, Finding, Whole, Faulty, Verdict}
use Rattle.pb_packet.specs.Packet.{Seen, PacketBytes}
use Rattle.pb_bmp5.specs.Message.{Message, MessageReads}
use Rattle.pb_truth.specs.Asked.{HasContent}
use Rattle.pb_truth.proofs.StreamLemmas.{frame_alone, only_one}

abbrev content_in : Finding → List ℕ
content_in (Whole content) = content
content_in (Faulty at why) = []

pub its_content : (content other : List ℕ) → IsContentSize (length content) → HasContent (frame content) other → other ≡ content
its_content content other size has =
    let found : Verdict = record { piece = has.0; outcome = Whole other } in
    sym (ap (λ (v : Verdict). content_in v.outcome) (only_one (record { piece = 1; outcome = Whole content }) found (subst (λ vs. Contains vs found) (frame_alone content size) has.1)))

-- what reads as a packet reads as no other
abbrev pub OnePacket : Type 0
OnePacket = (p q : Seen) (content : List ℕ) → PacketBytes p content → PacketBytes q content → p ≡ q

-- what reads as a message reads as no other
abbrev pub OneMessage : Type 0
OneMessage = (m other : Message) (bytes : List ℕ) → MessageReads m bytes → MessageReads other bytes → m ≡ other

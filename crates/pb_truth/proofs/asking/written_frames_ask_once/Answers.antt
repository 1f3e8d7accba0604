use Rattle.std.proofs.Common.{◌≡◌, ℕ, List, refl, subst, ◌∙◌, ap}
use Rattle.pb_base.specs.Request.{Request}
use Rattle.pb_packet.specs.declared.headers.Header.{Header}
use Rattle.pb_packet.specs.Packet.{full, PacketBytes}
use Rattle.pb_bmp5.specs.Message.{Collect, CollectKeys, MessageReads}
use Rattle.pb_truth.specs.Asked.{request_of, AsksFor}
use Rattle.pb_truth.proofs.StreamLemmas.{frame_has}
use Rattle.pb_truth.proofs.WrittenLemmas.{its_content, OnePacket, OneMessage}
use Rattle.pb_truth.proofs.asking.written_frames_ask_once.Goals as goal

one_request : OnePacket → OneMessage → (content message : List ℕ) (header : Header) (tran : ℕ) (k : CollectKeys) (r : Request) → PacketBytes (full header message) content
    → MessageReads (Collect tran k) message → AsksFor content r → r ≡ request_of header tran k
one_request one_packet one_message content message header tran k r packet reads asks =
    let same = one_packet (full asks.header asks.message) (full header message) content asks.packet packet in
    let header_is : asks.header ≡ header = cc in
    let message_is : asks.message ≡ message = cc in
    let command = one_message (Collect asks.tran asks.keys) (Collect tran k) message (subst (λ m. MessageReads (Collect asks.tran asks.keys) m) message_is asks.reads) reads in
    let tran_is : asks.tran ≡ tran = cc in
    let keys_are : asks.keys ≡ k = cc in
    asks.is ∙ ap (λ h. request_of h asks.tran asks.keys) header_is ∙ ap (λ n. request_of header n asks.keys) tran_is ∙ ap (λ x. request_of header tran x) keys_are

pub returns-clause-one : goal.returns-clause-one
returns-clause-one c content message header tran k r size packet reads is =
    one_request c.written_is_read.ensures.one_packet c.written_message_is_read.ensures.one_message content message header tran k r packet reads (subst (λ x. AsksFor x r) (its_content content is.0 size is.1) is.2)

pub returns-clause-asks : goal.returns-clause-asks
returns-clause-asks c content message header tran k size packet reads proto = (
  content,
  frame_has content size,
  record { header = header; message = message; packet = packet; proto = proto; tran = tran; keys = k; reads = reads; is = refl },
)

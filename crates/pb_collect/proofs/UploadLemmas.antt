-- Upload commands: what their frames ask for, and what may answer them.
use Rattle.std.proofs.Common.{◌≡◌, inr, ℕ, ◌≤◌, ◌+◌, List, [], length, refl, sym, ap, subst, ◌∙◌, arith, rules, length-append}
use Rattle.pb_base.specs.Request.{Request}
use Rattle.pb_frame.specs.Framing.{IsContentSize}
use Rattle.pb_packet.specs.Packet.{full, IsAddress, PacketBytes}
use Rattle.pb_packet.specs.declared.headers.Header.{Header}
use Rattle.pb_bmp5.specs.Message.{Collect, CollectKeys, Upload, UploadKeys, UploadReply, MessageReads, Valid, message_bytes}
use Rattle.pb_truth.specs.Asked.{AsksFor, IsIn}
use Rattle.pb_truth.proofs.WrittenLemmas.{its_content, OnePacket, OneMessage}
use Rattle.pb_collect.specs.Command.{content_to, frame_to, header_to}
use Rattle.pb_collect.specs.Upload.{MeansUpload, file_name, upload_frame, upload_keys, upload_message}
use Rattle.pb_collect.specs.declared.upload.FileReply.{FileReply}
use Rattle.pb_collect.specs.declared.upload.FileReply.TheVariants.{Data, Refused}
use Rattle.pb_collect.specs.declared.upload.UploadCommand.{UploadCommand}
use Rattle.pb_collect.proofs.CommandLemmas.{content_packet}

-- ---- the message

abbrev keys_of : ℕ → ℕ → UploadKeys
keys_of code offset = record { code = code; name = file_name; close = 0; offset = offset; swath = 900 }

pub valid : (tran code offset : ℕ) → Valid (Upload tran (keys_of code offset))
valid tran code offset = record { obeys = search rules; makes = refl }

pub short : (tran code offset : ℕ) → length (message_bytes (Upload tran (keys_of code offset))) ≤ 32
short tran code offset = omega arith

-- ---- it asks for no records

content_size : (c : UploadCommand) → IsContentSize (length (content_to c.contact (upload_message c)))
content_size c = inr (omega (arith, short c.tran c.contact.code c.offset), omega (arith, short c.tran c.contact.code c.offset))

other_message : (tran : ℕ) (keys : UploadKeys) (t : ℕ) (k : CollectKeys) → Collect t k ≡ Upload tran keys → ⊥
other_message tran keys t k is = cc

none_in : OnePacket → OneMessage → (content message : List ℕ) (header : Header) (tran : ℕ) (keys : UploadKeys) (r : Request)
    → PacketBytes (full header message) content → MessageReads (Upload tran keys) message → AsksFor content r → ⊥
none_in one_packet one_message content message header tran keys r packet reads asks =
    let same = one_packet (full asks.header asks.message) (full header message) content asks.packet packet in
    let message_is : asks.message ≡ message = cc in
    other_message tran keys asks.tran asks.keys
    (one_message (Collect asks.tran asks.keys) (Upload tran keys) message (subst (λ m. MessageReads (Collect asks.tran asks.keys) m) message_is asks.reads) reads)

pub no_records : OnePacket → OneMessage → (c : UploadCommand) → IsAddress c.contact.me → IsAddress c.contact.via → IsAddress c.contact.station
    → MessageReads (Upload c.tran (upload_keys c)) (upload_message c) → (r : Request) → IsIn r (upload_frame c) → ⊥
unfolding frame_to
no_records one_packet one_message c me via station reads r is =
    none_in one_packet one_message (content_to c.contact (upload_message c)) (upload_message c) (header_to c.contact) c.tran (upload_keys c) r
    (content_packet c.contact (upload_message c) me via station) reads
    (subst (λ x. AsksFor x r) (its_content (content_to c.contact (upload_message c)) is.0 (content_size c) is.1) is.2)

-- ---- replies

reply_len : (tran offset : ℕ) (bytes : List ℕ) → length (message_bytes (UploadReply tran 0 offset bytes)) ≡ 7 + length bytes
reply_len tran offset bytes = omega (arith, length-append bytes [])

-- the bytes of a reply are some of its message's
pub reply_short : (tran offset : ℕ) (bytes message : List ℕ) → MessageReads (UploadReply tran 0 offset bytes) message → length bytes ≤ length message
reply_short tran offset bytes message reads =
    omega (arith, ap length reads.parts, length-append (message_bytes (UploadReply tran 0 offset bytes)) reads.rest, reply_len tran offset bytes)

-- what is no reply answers nothing
pub no_reply : (c : UploadCommand) (message : List ℕ) → ((resp offset : ℕ) (bytes : List ℕ) → MessageReads (UploadReply c.tran resp offset bytes) message → ⊥)
    → (reply : FileReply) → MeansUpload c reply message → ⊥
no_reply c message none Data means = none 0 c.offset means.0 means.1
no_reply c message none (Refused code) means = none code means.1.0 means.1.1 means.1.2

same_tran : (a b x y p q : ℕ) (f g : List ℕ) → UploadReply a x p f ≡ UploadReply b y q g → a ≡ b
same_tran a b x y p q f g is = cc

same_resp : (a b x y p q : ℕ) (f g : List ℕ) → UploadReply a x p f ≡ UploadReply b y q g → x ≡ y
same_resp a b x y p q f g is = cc

same_offset : (a b x y p q : ℕ) (f g : List ℕ) → UploadReply a x p f ≡ UploadReply b y q g → p ≡ q
same_offset a b x y p q f g is = cc

module _ (one_message : OneMessage) (c : UploadCommand) (tran resp offset : ℕ) (bytes message : List ℕ) (reads : MessageReads (UploadReply tran resp offset bytes) message) where
  -- a reply of another transaction answers nothing
  pub other_tran : (tran ≡ c.tran → ⊥) → (reply : FileReply) → MeansUpload c reply message → ⊥
  other_tran other = no_reply c message (λ x p f again.
      other (same_tran tran c.tran resp x offset p bytes f (one_message (UploadReply tran resp offset bytes) (UploadReply c.tran x p f) message reads again)))

  -- bytes from another place on answer nothing
  pub other_place : resp ≡ 0 → (offset ≡ c.offset → ⊥) → (reply : FileReply) → MeansUpload c reply message → ⊥
  other_place is_zero other Data means =
      other (same_offset tran c.tran resp 0 offset c.offset bytes means.0 (one_message (UploadReply tran resp offset bytes) (UploadReply c.tran 0 c.offset means.0) message reads means.1))
  other_place is_zero other (Refused code) means =
      means.0 (sym (same_resp tran c.tran resp code offset means.1.0 bytes means.1.1 (one_message (UploadReply tran resp offset bytes) (UploadReply c.tran code means.1.0 means.1.1) message reads means.1.2)) ∙ is_zero)

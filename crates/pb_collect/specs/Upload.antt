-- What an upload command asks: its frame, and which replies answer it.
use Rattle.std.specs.Prelude.{◌≢◌, ℕ, List, codes}
use Rattle.pb_base.specs.Request.{Request}
use Rattle.pb_packet.specs.declared.headers.TheConstants.{PROTO_BMP5}
use Rattle.pb_bmp5.specs.Message.{Upload, UploadKeys, UploadReply, MessageReads, message_bytes}
use Rattle.pb_ask.specs.Wanted.{Wanted}
use Rattle.pb_truth.specs.Asked.{IsIn}
use Rattle.pb_collect.specs.Command.{frame_to}
use Rattle.pb_collect.specs.declared.upload.FileReply.{FileReply}
use Rattle.pb_collect.specs.declared.upload.FileReply.TheVariants.{Data, Refused}
use Rattle.pb_collect.specs.declared.upload.UploadCommand.{UploadCommand}

-- ---- what is sent

-- the file of a station's table definitions
abbrev pub file_name : List ℕ
file_name = codes ".TDF"

-- at most 900 bytes are asked for at once
abbrev pub upload_keys : UploadCommand → UploadKeys
upload_keys c = record { code = c.contact.code; name = file_name; close = 0; offset = c.offset; swath = 900 }

abbrev pub upload_message : UploadCommand → List ℕ
upload_message c = message_bytes (Upload c.tran (upload_keys c))

abbrev pub upload_frame : UploadCommand → List ℕ
upload_frame c = frame_to c.contact (upload_message c)

-- the command's frame asks for no records
abbrev pub AsksNoRecords : UploadCommand → Type 0
AsksNoRecords c = (r : Request) → IsIn r (upload_frame c) → ⊥

-- ---- what answers

-- the message reads as the reply with these bytes of the file, from the asked offset on
abbrev pub Brings : UploadCommand → List ℕ → List ℕ → Type 0
Brings c bytes message = MessageReads (UploadReply c.tran 0 c.offset bytes) message

-- the message reads as a reply with this response code
abbrev pub Refuses : UploadCommand → ℕ → List ℕ → Type 0
Refuses c code message = (offset : ℕ) × (bytes : List ℕ) × MessageReads (UploadReply c.tran code offset bytes) message

-- The message reads as a reply with bytes from the asked offset on, or with a response code that isn't 0.
abbrev pub MeansUpload : UploadCommand → FileReply → List ℕ → Type 0
MeansUpload c Data message = (bytes : List ℕ) × Brings c bytes message
MeansUpload c (Refused code) message = (code ≢ 0) × Refuses c code message

abbrev pub wanted_piece : UploadCommand → Wanted FileReply
wanted_piece c = record {
  frame = upload_frame c;
  asked = record { me = c.contact.me; station = c.contact.station; proto = PROTO_BMP5; kind = 0x1D; tran = c.tran };
  takes = MeansUpload c;
}

-- What a collect command asks: its frame, and which replies answer it.
use Rattle.std.specs.Prelude.{◌≡◌, ℕ, List, []}
use Rattle.pb_base.specs.Request.{Request}
use Rattle.pb_frame.specs.Framing.{frame}
use Rattle.pb_packet.specs.declared.headers.TheConstants.{PROTO_BMP5}
use Rattle.pb_bmp5.specs.CollectReply.{SeenReply, CollectReads}
use Rattle.pb_bmp5.specs.Message.{Collect, CollectKeys, message_bytes}
use Rattle.pb_ask.specs.Wanted.{Wanted}
use Rattle.pb_truth.specs.Asked.{request_of, IsIn}
use Rattle.pb_collect.specs.Command.{content_to, header_to}
use Rattle.pb_collect.specs.Progress.{Suits}
use Rattle.pb_collect.specs.declared.answer.Said.{Said}
use Rattle.pb_collect.specs.declared.command.Contact.{Contact}
use Rattle.pb_collect.specs.declared.question.CollectCommand.{CollectCommand}

-- ---- what is sent

-- how the command's station is asked
abbrev pub contact_in : CollectCommand → Contact
contact_in c = record { me = c.me; via = c.via; station = c.station; code = c.code }

-- all fields are asked for
abbrev pub command_keys : CollectCommand → CollectKeys
command_keys c = record { code = c.code; mode = c.mode; table = c.table.0; sig = c.sig; fields = [] }

abbrev pub command_message : CollectCommand → List ℕ
command_message c = message_bytes (Collect c.tran (command_keys c))

abbrev pub command_content : CollectCommand → List ℕ
command_content c = content_to (contact_in c) (command_message c)

unfoldable pub command_frame : CollectCommand → List ℕ
command_frame c = frame (command_content c)

-- the request that the command is
abbrev pub command_request : CollectCommand → Request
command_request c = request_of (header_to (contact_in c)) c.tran (command_keys c)

-- the command's frame asks for nothing else
abbrev pub AsksOnce : CollectCommand → Type 0
AsksOnce c = (r : Request) → IsIn r (command_frame c) → r ≡ command_request c

-- ---- what answers

-- The message reads as a reply for the table that fits what was asked, and this is what it says beside its records.
pub record MeansReply (c : CollectCommand) (said : Said) (message : List ℕ) : Type 0 where
  pub reply : SeenReply
  pub reads : CollectReads c.table.0 c.layout reply message
  pub fits : Suits c.mode reply
  pub resp : reply.resp ≡ said.resp
  pub more : reply.more ≡ said.more

abbrev pub wanted_reply : CollectCommand → Wanted Said
wanted_reply c = record {
  frame = command_frame c;
  asked = record { me = c.me; station = c.station; proto = PROTO_BMP5; kind = 0x09; tran = c.tran };
  takes = MeansReply c;
}

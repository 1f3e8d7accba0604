-- The collect requests of a world, and those that an archive allows.
use Rattle.std.specs.Prelude.{◌≡◌, ℕ, ◌≤◌, List, slice_get, Some}
use Rattle.std.specs.List.{Contains}
use Rattle.pb_base.specs.World.{World, sent}
use Rattle.pb_base.specs.Request as asked
use Rattle.pb_base.specs.Request.{Request, Mode}
use Rattle.pb_frame.specs.Framing.{Whole, verdicts}
use Rattle.pb_packet.specs.declared.headers.Header.{Header}
use Rattle.pb_packet.specs.declared.headers.TheConstants.{PROTO_BMP5}
use Rattle.pb_packet.specs.Packet.{full, PacketBytes}
use Rattle.pb_bmp5.specs.Asking.{request_by}
use Rattle.pb_bmp5.specs.Message.{Collect, CollectKeys, MessageReads}
use Rattle.pb_archive.specs.Archive.{Table, Archive, front}

-- ---- what was asked

-- what a collect command in a packet asks for
abbrev pub request_of : Header → ℕ → CollectKeys → Request
request_of header tran keys = request_by header.src header.dst tran keys

-- the content is a packet of BMP5 with this collect command
pub record AsksFor (content : List ℕ) (r : Request) : Type 0 where
  pub header : Header
  pub message : List ℕ
  pub packet : PacketBytes (full header message) content
  pub proto : header.proto ≡ PROTO_BMP5
  pub tran : ℕ
  pub keys : CollectKeys
  pub reads : MessageReads (Collect tran keys) message
  pub is : r ≡ request_of header tran keys

-- a good piece of the stream has this content
abbrev pub HasContent : List ℕ → List ℕ → Type 0
HasContent stream content =
    (place : ℕ) × Contains (verdicts stream) (record { piece = place; outcome = Whole content })

-- the request is in a good piece of the frame
abbrev pub IsIn : Request → List ℕ → Type 0
IsIn r frame = (content : List ℕ) × HasContent frame content × AsksFor content r

-- the request is in a frame that was sent
abbrev pub WasAsked : World → Request → Type 0
WasAsked w r = (frame : List ℕ) × Contains (sent w) frame × IsIn r frame

abbrev pub AsksNothing : World → Type 0
AsksNothing w = (r : Request) → WasAsked w r → ⊥

-- ---- what may be asked

-- asks for records from a number on, or for the rest of a record, where the number is this one or a lower one
abbrev pub AsksFromAtMost : ℕ → Mode → Type 0
AsksFromAtMost n (asked.From number) = number ≤ n
AsksFromAtMost n (asked.Part number offset) = number ≤ n
AsksFromAtMost n asked.All = ⊥
AsksFromAtMost n (asked.Newest count) = ⊥
AsksFromAtMost n (asked.Range from to) = ⊥
AsksFromAtMost n (asked.Times from to) = ⊥

-- The request is for a table of the archive, under the signature that the archive has, and asks from the table's front or
-- below.
pub record Allows (a : Archive) (r : Request) : Type 0 where
  pub id : ℕ
  pub table : Table
  pub there : slice_get a.tables id ≡ Some table
  pub me : r.me ≡ table.me
  pub key : r.table ≡ table.key
  pub below : AsksFromAtMost (front table) r.mode

-- an address from which this archive's requests are sent
abbrev pub IsOwn : Archive → ℕ → Type 0
IsOwn a node = node ≡ a.plan.me

-- Each table is asked for from an own address, and no two tables are for one address, station and number.
pub record HasOneEach (a : Archive) : Type 0 where
  pub own : (id : ℕ) (t : Table) → slice_get a.tables id ≡ Some t → IsOwn a t.me
  pub one : (i j : ℕ) (t u : Table) → slice_get a.tables i ≡ Some t → slice_get a.tables j ≡ Some u
      → t.me ≡ u.me → t.key.station ≡ u.key.station → t.key.number ≡ u.key.number → t ≡ u

-- All that was ever asked from the archive's own address is what it allows.
abbrev pub AskedBelow : World → Archive → Type 0
AskedBelow w a = (r : Request) → WasAsked w r → IsOwn a r.me → Allows a r

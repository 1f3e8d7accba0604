-- When the replies that are heard are true.
use Rattle.std.specs.Prelude.{◌≡◌, ℕ, ◌≤◌, List, [], ◌∷◌, ◌++◌, length, slice_get, Some}
use Rattle.std.specs.List.{Contains}
use Rattle.pb_base.specs.World.{World, Heard, TableDefinition, heard}
use Rattle.pb_base.specs.History.{TableKey, history}
use Rattle.pb_base.specs.Request.{Request}
use Rattle.pb_frame.specs.Framing.{flag, IsGoodBody, content_of}
use Rattle.pb_frame.specs.Hearing.{HasNoFlag}
use Rattle.pb_packet.specs.declared.headers.Header.{Header}
use Rattle.pb_packet.specs.declared.headers.TheConstants.{PROTO_BMP5}
use Rattle.pb_packet.specs.Packet.{full, PacketBytes}
use Rattle.pb_bmp5.specs.CollectReply.{SeenReply, CollectReads}
use Rattle.pb_bmp5.specs.TrueReply.{Delivered, TrueReply}
use Rattle.pb_archive.specs.Archive.{Table, Archive, record_layout, told_definition}
use Rattle.pb_archive.specs.Entry.{records_max}
use Rattle.pb_truth.specs.Asked.{HasContent, WasAsked, IsOwn}

-- The stream's last byte is the flag byte that ends a good piece, and this is the content of the piece.
pub record EndsGoodPiece (stream content : List ℕ) : Type 0 where
  pub before : List ℕ
  pub text : List ℕ
  pub body : List ℕ
  pub is : stream ≡ before ++ flag ∷ (text ++ flag ∷ [])
  pub no_flag : HasNoFlag text
  pub good : IsGoodBody text body
  pub content_is : content ≡ content_of body

abbrev pub delivered : Header → List ℕ → Delivered
delivered header message = record { src = header.src; dst = header.dst; proto = header.proto; message = message }

-- the content is this packet
pub record Delivers (content : List ℕ) (m : Delivered) : Type 0 where
  pub header : Header
  pub message : List ℕ
  pub packet : PacketBytes (full header message) content
  pub is : m ≡ delivered header message

-- the packet is a collect reply of BMP5, with whatever transaction and response code
pub record IsCollectReply (m : Delivered) : Type 0 where
  pub proto : m.proto ≡ PROTO_BMP5
  pub tran : ℕ
  pub resp : ℕ
  pub body : List ℕ
  pub message : m.message ≡ 0x89 ∷ tran ∷ resp ∷ body

-- it is a true reply to a request that was sent
pub record IsAnswer (w : World) (m : Delivered) : Type 0 where
  pub request : Request
  pub asked : WasAsked w request
  pub reply : TrueReply request m (history w)

-- this byte, heard after this world, ends a good piece of the present stream, which is this packet
abbrev pub HearsPacket : World → ℕ → Delivered → Type 0
HearsPacket w byte m = (content : List ℕ) × EndsGoodPiece (heard w ++ byte ∷ []) content × Delivers content m

-- The packet was heard: of the bytes of the present stream some came earlier, some were judged, of which a good piece is this
-- packet, and some wait.
pub record WasHeard (w : World) (m : Delivered) : Type 0 where
  pub earlier : List ℕ
  pub judged : List ℕ
  pub waiting : List ℕ
  pub stream : heard w ≡ (earlier ++ judged) ++ waiting
  pub content : List ℕ
  pub has : HasContent judged content
  pub delivers : Delivers content m

-- The packet reads as this reply for a table, with response code 0: from its station to the address that asks for it.
pub record RepliesFor (t : Table) (m : Delivered) (reply : SeenReply) : Type 0 where
  pub src : m.src ≡ t.key.station
  pub dst : m.dst ≡ t.me
  pub proto : m.proto ≡ PROTO_BMP5
  pub reads : CollectReads t.key.number (record_layout t.definition) reply m.message
  pub complete : reply.resp ≡ 0

-- Each collect reply to the archive's own address was, when its last byte was heard, a true reply to a request sent before.
-- A table of the archive has one definition under its signature. A record's number has four bytes.
pub record Honest (w : World) (a : Archive) : Type 0 where
  pub answers : (before after : World) (byte : ℕ) (m : Delivered) → w ≡ before ++ Heard byte ∷ after
      → HearsPacket before byte m → IsCollectReply m → IsOwn a m.dst → IsAnswer (before ++ Heard byte ∷ []) m
  pub defined : (id : ℕ) (t : Table) (d : TableDefinition) → slice_get a.tables id ≡ Some t
      → Contains (history w t.key).definitions d → d ≡ told_definition t.definition
  pub few : (key : TableKey) → length (history w key).records ≤ records_max

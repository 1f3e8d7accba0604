-- What the answers to collect commands are to a collector, over a history whose records are the station's.
use Rattle.std.specs.Prelude.{◌≡◌, ◌≢◌, ℕ, ◌≤◌, false, List, [], ◌∷◌, Option, Some, None}
use Rattle.std.specs.List.{Contains}
use Rattle.pb_base.specs.declared.nsec.Nsec.{Nsec}
use Rattle.pb_base.specs.Time.{IsNormal, HasLater, time_later}
use Rattle.pb_base.specs.World.{StoredRecord, TableDefinition}
use Rattle.pb_base.specs.History.{TableKey, History}
use Rattle.pb_base.specs.Request.{Request}
use Rattle.pb_packet.specs.declared.headers.Header.{Header}
use Rattle.pb_bmp5.specs.Asking.{request_by}
use Rattle.pb_bmp5.specs.Message as bmp5
use Rattle.pb_bmp5.specs.Message.{CollectKeys}
use Rattle.pb_bmp5.specs.TrueReply.{Delivered, Stage, FullReply}
use Rattle.pb_station.specs.State.{Table, State, stage_of}
use Rattle.pb_station.specs.Collect.{numbered}
use Rattle.pb_station.specs.Answer.{Answer, InBmp5, broadcast}

-- each record's time is one interval after the time before it
abbrev pub GoOn : (interval before : Nsec) → List StoredRecord → Type 0
GoOn interval before [] = Unit {0}
GoOn interval before (r ∷ records) =
    HasLater before interval 1 × (r.time ≡ time_later before interval 1) × GoOn interval r.time records

abbrev pub AreRegular : (interval : Nsec) → List StoredRecord → Type 0
AreRegular interval [] = Unit {0}
AreRegular interval (r ∷ records) = IsNormal r.time × GoOn interval r.time records

-- The history tells the table's definition and all records that were stored in it, and its oldest is at least the table's.
-- In a table of intervals each record is one interval after the one before.
pub record Tells (h : History) (table : Table) : Type 0 where
  pub definition : TableDefinition
  pub stood : Contains h.definitions definition
  pub layout : definition.layout ≡ table.layout
  pub records : h.records ≡ table.stored
  pub oldest : (stage_of table).oldest ≤ h.oldest
  pub regular : table.layout.event ≡ false → AreRegular table.layout.interval table.stored

-- the same, where the table is there under the signature
abbrev pub TellsTable : Option Table → (signature : ℕ) → History → Type 0
TellsTable None signature h = Unit {0}
TellsTable (Some table) signature h = table.signature ≡ signature → Tells h table

-- the packet is a collect command to the station
pub record IsCollect (s : State) (header : Header) (message : List ℕ) (tran : ℕ) (c : CollectKeys) : Type 0 where
  pub to : header.dst ≡ s.device.address
  pub alone : header.dst ≢ broadcast
  pub proto : header.proto ≡ 1
  pub reads : bmp5.MessageReads (bmp5.Collect tran c) message

-- what the packet's source asks
abbrev pub request_of : Header → (tran : ℕ) → CollectKeys → Request
request_of header tran c = request_by header.src header.dst tran c

-- the reply, as it comes to the source
abbrev pub delivered : Header → bmp5.Message → Delivered
delivered header m = record { src = header.dst; dst = header.src; proto = 1; message = bmp5.message_bytes m }

abbrev pub IsPresent : Option Table → Stage → Type 0
IsPresent None stage = ⊥
IsPresent (Some table) stage = stage ≡ stage_of table

-- The answer is a full reply. Where its response code is 0, it is one at the table's present stage.
pub record AnswersFully (s : State) (header : Header) (tran : ℕ) (c : CollectKeys) (history : TableKey → History)
    (answer : Answer) : Type 0 where
  pub resp : ℕ
  pub bytes : List ℕ
  pub says : answer.says ≡ InBmp5 (bmp5.CollectReply tran resp bytes)
  pub full : FullReply (request_of header tran c) (delivered header (bmp5.CollectReply tran resp bytes)) history
  pub present : (complete : full.is_true.resp ≡ 0)
      → IsPresent (numbered s.tables c.table) (full.is_true.says complete).answer.stage

-- What a station answers to a collect command, of all records that were stored in its tables.
use Rattle.std.specs.Prelude.{ℕ, zero, suc, ◌+◌, ◌-◌, ◌/◌, min, Bool, true, false, not, ◌==◌, ◌&&◌, nat_lt, nat_le, List, [], ◌∷◌, ◌++◌, length, take, drop, slice_get, Option, Some, None, if◌then◌else◌}
use Rattle.std.specs.List.{flat_map}
use Rattle.pb_base.specs.declared.layout.Layout.{Layout}
use Rattle.pb_base.specs.World.{StoredRecord}
use Rattle.pb_base.specs.Time.{time_bytes}
use Rattle.pb_base.specs.Record.{content, content_len}
use Rattle.pb_base.specs.History.{History}
use Rattle.pb_bmp5.specs.declared.message.Mode.{Mode}
use Rattle.pb_bmp5.specs.declared.message.Mode.TheVariants as mode
use Rattle.pb_bmp5.specs.Asking.{asked_mode}
use Rattle.pb_bmp5.specs.Message.{Message, CollectKeys, CollectReply}
use Rattle.pb_bmp5.specs.CollectReply.{SeenFragment, whole, part, fragment_bytes}
use Rattle.pb_bmp5.specs.TrueReply.{Run, run_of}
use Rattle.pb_station.specs.State.{Table, stage_of}

-- the most bytes of a fragment's records or part, and the most records
abbrev pub bytes_max : ℕ
bytes_max = 960

abbrev pub records_max : ℕ
records_max = 32767

-- response codes: insufficient resources, invalid table definition signature
abbrev pub lacking : ℕ
lacking = 2

abbrev pub other_signature : ℕ
other_signature = 7

-- a response code alone, or fragments and whether there are more records
pub data Collected : Type 0 where
  Refused : (resp : ℕ) → Collected
  Sends : (fragments : List SeenFragment) → (more : Bool) → Collected

-- the table's records as a history tells them
abbrev pub history_of : Table → History
history_of table = record { definitions = []; records = table.stored; oldest = (stage_of table).oldest }

-- the content of the record of this number
abbrev pub content_in : Option StoredRecord → List ℕ
content_in (Some r) = content r
content_in None = []

abbrev pub content_at : Table → ℕ → List ℕ
content_at table number = content_in (slice_get table.stored number)

abbrev pub field_bytes : StoredRecord → List ℕ
field_bytes r = r.bytes

-- Records as they are sent: in a table of events each with its time, else the first one's time and then the field bytes.
abbrev pub run_bytes : Layout → List StoredRecord → List ℕ
run_bytes layout [] = []
run_bytes layout (r ∷ records) =
    if layout.event then flat_map content (r ∷ records) else time_bytes r.time ++ flat_map field_bytes (r ∷ records)

-- how many records have room in one fragment
abbrev pub room_of : Layout → ℕ
room_of layout =
    if layout.event then bytes_max / content_len layout
    else if layout.record_len == 0 then records_max
    else min records_max ((bytes_max - 8) / layout.record_len)

-- An answer for a run of numbers: none, the beginning of a content that has no room, or as many records as have room. There
-- are no more where it ends with the run's last byte.
abbrev pub answer_run : Table → Run → Collected
answer_run table run =
    if nat_le run.to run.from then Sends [] false
    else if nat_lt bytes_max (content_len table.layout) then
    Sends (part run.from 0 (take bytes_max (content_at table run.from)) ∷ []) true
    else
    let count = min (run.to - run.from) (room_of table.layout) in
    let records = take count (drop run.from table.stored) in
    Sends (whole run.from count (run_bytes table.layout records) ∷ []) (nat_lt (run.from + count) run.to)

-- An answer for a part of one record. Where the record isn't held any more there are more; there are none where it isn't
-- there yet, and where the part ends the newest record.
abbrev pub answer_part : Table → (number offset : ℕ) → Collected
answer_part table number offset =
    let stage = stage_of table in
    if nat_lt number stage.oldest then Sends [] true
    else if nat_le stage.next number then Sends [] false
    else if nat_le (content_len table.layout) offset then Refused lacking
    else
    let bytes = take bytes_max (drop offset (content_at table number)) in
    let is_last = (number + 1 == stage.next) && (offset + length bytes == content_len table.layout) in
    Sends (part number offset bytes ∷ []) (not is_last)

abbrev pub answer_mode : Table → Mode → Collected
answer_mode table (mode.Part number offset) = answer_part table number offset
answer_mode table m = answer_run table (run_of (asked_mode m) (history_of table) (stage_of table))

-- tables are numbered from 1
abbrev pub numbered : List Table → ℕ → Option Table
numbered tables zero = None
numbered tables (suc n) = slice_get tables n

-- The table is there under the signature; all fields are asked for; then the mode decides.
abbrev pub of_table : Option Table → CollectKeys → Collected
of_table None c = Refused other_signature
of_table (Some table) c =
    if not (table.signature == c.sig) then Refused other_signature
    else if not (length c.fields == 0) then Refused lacking
    else answer_mode table c.mode

abbrev pub collected : List Table → CollectKeys → Collected
collected tables c = of_table (numbered tables c.table) c

-- ---- the reply

-- fragments, and the last byte
abbrev pub body : (table : ℕ) → List SeenFragment → Bool → List ℕ
body table fragments more = flat_map (fragment_bytes table) fragments ++ (if more then 1 else 0) ∷ []

abbrev pub reply_of : (tran table : ℕ) → Collected → Message
reply_of tran table (Refused resp) = CollectReply tran resp []
reply_of tran table (Sends fragments more) = CollectReply tran 0 (body table fragments more)

-- Collect commands, and parts of files, as they are handed on.
use Rattle.std.specs.Prelude.{◌≡◌, ℕ, ◌+◌, ◌^◌, ◌<◌, ◌≤◌, List, [], take, drop, slice_get, Option, Some, None, zero, suc, Result, Ok, Err}
use Rattle.pb_base.specs.declared.nsec.Nsec.{Nsec}
use Rattle.pb_base.specs.World.{StoredRecord}
use Rattle.pb_base.specs.Put.{IsWritten}
use Rattle.pb_base.specs.Record.{content}
use Rattle.pb_base.specs.History.{History}
use Rattle.pb_bmp5.specs.Message.{CollectKeys, DownloadKeys, UploadKeys}
use Rattle.pb_bmp5.specs.TrueReply as replies
use Rattle.pb_ring.specs.Ring.{Kept, oldest_of}
use Rattle.pb_station.specs.declared.bmp5_answers.Part.{Part}
use Rattle.pb_station.specs.declared.bmp5_answers.Wanted.{Wanted}
use Rattle.pb_station.specs.declared.collect.Command.{Command}
use Rattle.pb_station.specs.declared.run.Run.{Run}
use Rattle.pb_station.specs.State.{KeptTable}
use Rattle.pb_station.specs.Collect.{Collected, Refused, Sends, body}

abbrev pub collect_keys : ℕ → Command → CollectKeys
collect_keys code c = record { code = code; mode = c.mode; table = c.table.0; sig = c.sig; fields = c.fields.now }

-- the attribute and the close byte say nothing
abbrev pub download_keys : ℕ → Part → DownloadKeys
download_keys code p = record { code = code; name = p.name.now; attr = 0; close = 0; offset = p.offset; bytes = p.bytes.now }

abbrev pub upload_keys : ℕ → Wanted → UploadKeys
upload_keys code w = record { code = code; name = w.name.now; close = 0; offset = w.offset; swath = w.swath }

-- the body was written, or the response code is that of the refusal
abbrev pub IsCollected : Collected → ℕ → List ℕ → List ℕ → Result ℕ ℕ → Type 0
IsCollected (Refused resp) table old new (Err r) = r ≡ resp
IsCollected (Refused resp) table old new (Ok n) = ⊥
IsCollected (Sends fragments more) table old new (Err r) = ⊥
IsCollected (Sends fragments more) table old new (Ok n) = IsWritten (body table fragments more) old new n

-- ---- runs

abbrev pub seen_run : Run → replies.Run
seen_run r = record { from = r.from; to = r.to }

abbrev pub stage_in : Kept → replies.Stage
stage_in ring = record { next = ring.next; oldest = oldest_of ring }

abbrev pub history_in : Kept → List StoredRecord → History
history_in ring all = record { definitions = []; records = all; oldest = oldest_of ring }

-- these records are held
pub record AreHeld (ring : Kept) (first count : ℕ) : Type 0 where
  pub not_lost : oldest_of ring ≤ first
  pub there : first + count ≤ ring.next
  pub numbers : first + count < 2 ^ 32

abbrev pub content_part : ℕ → ℕ → StoredRecord → List ℕ
content_part offset len r = take len (drop offset (content r))

-- it is the time of the record of this number
pub record HasTimeOf (all : List StoredRecord) (number : ℕ) (time : Nsec) : Type 0 where
  pub stored : StoredRecord
  pub is : slice_get all number ≡ Some stored
  pub same : time ≡ stored.time

-- tables are numbered from 1
abbrev pub numbered_in : List KeptTable → ℕ → Option KeptTable
numbered_in tables zero = None
numbered_in tables (suc n) = slice_get tables n

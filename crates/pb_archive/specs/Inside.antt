-- Steps of the calls, which no promise names.
use Rattle.std.specs.Prelude.{◌≡◌, ◌⊎◌, ⊤, Bool, true, false, ℕ, ◌+◌, ◌^◌, ◌<◌, ◌≤◌, List, [], ◌++◌, length, map, drop, Option, None, Some}
use Rattle.std.specs.List.{All, AllByRecursion, flat_map}
use Rattle.pb_base.specs.Fields.{Unread, IsBytes}
use Rattle.pb_tdf.specs.Definition.{Definition, IsTable}
use Rattle.pb_tdf.specs.View.{view_of}
use Rattle.pb_archive.specs.Plan.{Plan, IsBegun, CannotGoOn, first_line, station_line}
use Rattle.pb_archive.specs.declared.fault.PlanFault.{PlanFault}
use Rattle.pb_archive.specs.declared.fault.PlanFault.TheVariants as plan_fault
use Rattle.pb_archive.specs.Entry.{Advance, Change, Added, Advanced, Stopped, IsTold, HasForm, station_bytes, change_bytes, contents, IsArchive, tables_max, records_max}
pub use Rattle.pb_archive.specs.Opened.{HasLayout, IsOther, CanAddHere, IsGoingOnHere, CanAdvanceHere, AllowsHere}
use Rattle.pb_archive.specs.Held.{Wrote}
use Rattle.pb_archive.specs.Opened.{Register, Stands, kept_of, register_after}
use Rattle.pb_archive.specs.Archive.{Archive}
use Rattle.std.specs.Option.{ForSome}
use Rattle.pb_io.specs.Settled.{IsSettled}
use Rattle.pb_io.specs.View.{View}
use Rattle.pb_journal.specs.Opened.{RestsAt}
use Rattle.pb_journal.specs.Reading.{Reading, IsReading}
use Rattle.pb_archive.specs.declared.entry.EntryFault as read_fault
use Rattle.pb_archive.specs.declared.entry.EntryFault.TheVariants as entry
use Rattle.pb_archive.specs.declared.fault.ArchiveFault.{ArchiveFault}
use Rattle.pb_archive.specs.declared.fault.ArchiveFault.TheVariants.{NotCreated, Exists, Format, DiskFault, MustReopen, TooMany, Memory}
use Rattle.pb_archive.specs.declared.fault.ArchiveFault.TheVariants as fault
use Rattle.pb_journal.specs.Changes as journal
use Rattle.pb_journal.specs.Refusals.{IsCreated}
use Rattle.pb_archive.specs.declared.entry.Advance as read_advance
use Rattle.pb_archive.specs.declared.entry.Change as read_change
use Rattle.pb_archive.specs.declared.entry.Change.TheVariants as read
use Rattle.pb_archive.specs.declared.held.Held.{Held}
use Rattle.pb_archive.specs.declared.plan.StationPlan.{StationPlan}
use Rattle.pb_archive.specs.declared.row.Last.{Last}
use Rattle.pb_archive.specs.declared.row.Last.TheVariants as last
use Rattle.pb_archive.specs.declared.run.Run.{Run}
use Rattle.pb_archive.specs.Reader.{Reader, Awaits, ReadRow, SameTable, advance_head_len, content_at, run_end}
use Rattle.pb_archive.specs.Rows.{SeenRow, kept, gap}
use Rattle.pb_base.specs.declared.layout.Layout.{Layout}
use Rattle.pb_base.specs.Record.{content, cut_records}
use Rattle.pb_record.specs.Cut.{IsRun}

-- a station's fields
abbrev pub station : ℕ → ℕ → List ℕ → StationPlan
station addr code name = record { addr = addr; code = code; name = name }

abbrev pub name_of : StationPlan → List ℕ
name_of s = s.name

-- ---- entries as they are read

-- each number has the bytes that an entry has for it
abbrev pub IsSpelled : Change → Type 0
IsSpelled (Added station number definition) = (station < 2 ^ 8) × (number < 2 ^ 16) × IsTable definition
IsSpelled (Advanced id a) = (id < 2 ^ 16) × (a.form < 2 ^ 8) × (a.first < 2 ^ 32) × (a.count < 2 ^ 16)
IsSpelled (Stopped id stop) = (id < 2 ^ 16) × IsTold stop.told

abbrev pub seen_advance : read_advance.Advance → Advance
seen_advance a = record { form = a.form; first = a.first.0; count = a.count; bytes = a.bytes.now }

-- what was read is this change
abbrev pub Says : read_change.Change → Change → Type 0
Says (read.Add station number table) change =
    (definition : Definition) × IsTable definition × (table ≡ view_of definition) × (change ≡ Added station number.0 definition)
Says (read.Advance id advance) change = change ≡ Advanced id.0 (seen_advance advance)
Says (read.Stop id stop) change = change ≡ Stopped id.0 stop

-- ---- what is always true of what is kept

pub record IsHeld (plan : Plan) (held : Held) : Type 0 where
  pub there : held.station < length plan.stations
  pub layout : HasLayout held.table
  pub gaps : held.gaps ≤ held.front
  pub numbers : held.front ≤ records_max

pub record IsRegister (r : Register) : Type 0 where
  pub each : AllByRecursion (IsHeld r.plan) r.tables
  pub few : length r.tables ≤ tables_max

-- the table at this place may be advanced so
abbrev pub MayAdvance : Register → ℕ → Advance → Type 0
MayAdvance r id a = (held : Held) × IsGoingOnHere r id held × CanAdvanceHere held a

-- ---- plans as they are read

pub record IsSpelledStation (s : StationPlan) : Type 0 where
  pub addr : s.addr < 2 ^ 16
  pub code : s.code < 2 ^ 16
  pub name : All (λ byte. 0 < byte) s.name

-- a station was the next
pub record ReadsStation (old : Unread) (s : StationPlan) (new : Unread) : Type 0 where
  pub bytes : old.rest ≡ station_bytes s ++ new.rest
  pub spelled : IsSpelledStation s
  pub rest : IsBytes new.rest

-- so many stations were all that was there
pub record ReadsStations (old : Plan) (rest : List ℕ) (count : ℕ) (new : Plan) : Type 0 where
  pub me : new.me ≡ old.me
  pub via : new.via ≡ old.via
  pub count_is : length new.stations ≡ count
  pub bytes : rest ≡ flat_map station_bytes new.stations
  pub begun : IsBegun new

-- so many stations were read, and every plan with these addresses that the bytes could be goes on from them
pub record ReadsSome (old : Plan) (from : List ℕ) (draft : Plan) (rest : List ℕ) : Type 0 where
  pub me : draft.me ≡ old.me
  pub via : draft.via ≡ old.via
  pub begun : IsBegun draft
  pub fits : IsBytes rest
  pub bytes : from ≡ flat_map station_bytes draft.stations ++ rest
  pub only : (q : Plan) → IsBegun q → q.me ≡ old.me → q.via ≡ old.via → from ≡ flat_map station_bytes q.stations
      → (more : List StationPlan) × (q.stations ≡ draft.stations ++ more) × (rest ≡ flat_map station_bytes more)

-- ---- reading all entries

-- The entries that were read are the archive of which this is kept, and others come.
pub record HasRead (register : Register) (reading : Reading) (gate : ℕ) (file : List ℕ) : Type 0 where
  pub done : List (List ℕ)
  pub rest : List (List ℕ)
  pub rests : RestsAt gate (done ++ rest) file
  pub ahead : IsReading reading gate file rest
  pub archive : Archive
  pub entries : IsArchive done archive
  pub same : register ≡ kept_of archive

-- nothing was read yet
pub record Begins (reading : Reading) (gate : ℕ) (file : List ℕ) : Type 0 where
  pub bodies : List (List ℕ)
  pub rests : RestsAt gate bodies file
  pub ahead : IsReading reading gate file bodies

-- one more was read, or there was none
abbrev pub ReadsNext : Register → Reading → ℕ → Bool → List ℕ → Type 0
ReadsNext register reading gate true file = HasRead register reading gate file
ReadsNext register reading gate false file = Stands register gate file

-- by the place of the entry's gate
abbrev pub IsRefusalOf : read_fault.EntryFault → ℕ → ArchiveFault → Type 0
IsRefusalOf entry.Wrong at fault = fault ≡ Format at
IsRefusalOf entry.Memory at fault = fault ≡ Memory

-- ---- writing

-- This change may be written at the gate: it is allowed there, and its entry has this body.
pub record CanWrite (register : Register) (change : Change) (gate : ℕ) (body : List ℕ) (disk : View) : Type 0 where
  pub stands : ForSome disk.file (Stands register gate)
  pub settled : IsSettled disk
  pub allows : AllowsHere register change
  pub spelled : IsSpelled change
  pub bytes : body ≡ change_bytes change

-- a change that is allowed, and the body of its entry
pub record IsEntryOf (register : Register) (change : Change) (body : List ℕ) : Type 0 where
  pub allows : AllowsHere register change
  pub spelled : IsSpelled change
  pub bytes : body ≡ change_bytes change

-- the change is written, and what is kept after it stands for the file
pub record HasWritten (change : Change) (register : Register) (gate : ℕ) (old new : View) : Type 0 where
  pub wrote : Wrote change old new
  pub stands : ForSome new.file (Stands (register_after register change) gate)

-- ---- the records of an advance

-- the records can be cut, and each has a number
abbrev pub FitsLayout : Layout → Advance → Type 0
FitsLayout layout a = HasForm layout a × (a.first + a.count ≤ records_max)

-- so do those of an advance of the table at this place
abbrev pub FitsTable : ℕ → Layout → Change → Type 0
FitsTable id layout (Added station number definition) = ⊤
FitsTable id layout (Advanced k a) = k ≡ id → FitsLayout layout a
FitsTable id layout (Stopped k stop) = ⊤

-- no advance of the table at this place
abbrev pub IsElsewhere : ℕ → Change → Type 0
IsElsewhere id (Added station number definition) = ⊤
IsElsewhere id (Advanced k a) = k ≡ id → ⊥
IsElsewhere id (Stopped k stop) = ⊤

-- the run has the advance's records
pub record IsRunOf (layout : Layout) (a : Advance) (run : Run) : Type 0 where
  pub first : run.first ≡ a.first
  pub count : run.count ≡ a.count
  pub len : run.layout.record_len ≡ layout.record_len
  pub cut : IsRun run.layout a.first a.count a.bytes
  pub same : contents layout a ≡ map content (cut_records run.layout a.count a.bytes)

-- the run has the records of the advance whose entry has this body
pub record IsRunIn (id : ℕ) (layout : Layout) (body : List ℕ) (run : Run) : Type 0 where
  pub advance : Advance
  pub spelled : IsSpelled (Advanced id advance)
  pub bytes : body ≡ change_bytes (Advanced id advance)
  pub is : IsRunOf layout advance run

-- the entry with this body is no advance of the table
abbrev pub HasNoRun : ℕ → List ℕ → Type 0
HasNoRun id body = (change : Change) → IsSpelled change → body ≡ change_bytes change → IsElsewhere id change

-- ---- reading rows

-- the record that was read last is one of the run's
abbrev pub IsLast : Last → Run → Type 0
IsLast last.Nothing run = ⊤
IsLast (last.Kept k) run = k < run.count
IsLast (last.Gap from to) run = ⊤

-- what is always true of the fields of `Rows`
pub record IsReader (last : Last) (layout : Layout) (next to : ℕ) (run : Run) (body : List ℕ) : Type 0 where
  pub within : next ≤ to
  pub numbers : run_end run ≤ records_max
  pub cut : 0 < run.count → IsRun run.layout run.first run.count (drop advance_head_len body)
  pub here : IsLast last run
  pub same_len : run.layout.record_len ≡ layout.record_len

abbrev pub row_of : Last → Run → List ℕ → Option SeenRow
row_of last.Nothing run body = None
row_of (last.Kept k) run body = Some (kept (run.first + k) (content_at run body k))
row_of (last.Gap from to) run body = Some (gap from to)

-- What comes at the next number: a gap that reaches the end, or one that ends at a kept record, or a kept record.
abbrev pub IsKnown : Reader → Type 0
IsKnown r = (r.to ≤ r.run.first) ⊎ ((0 < r.run.count) × (r.next < run_end r.run))

-- the same rows are read, from the same number on
pub record SameRows (old new : Reader) : Type 0 where
  pub next : new.next ≡ old.next
  pub table : SameTable old new

-- what is still to come stays
abbrev pub StillAwaits : Reader → Reader → Option (List ℕ) → Type 0
StillAwaits old new view = (file : List ℕ) (rows : List SeenRow) → view ≡ Some file → Awaits old file rows → Awaits new file rows

-- the next row was read
abbrev pub NextIsRead : Reader → Reader → Type 0
NextIsRead old new = (file : List ℕ) (rows : List SeenRow) → Awaits old file rows → ReadRow new file rows true

-- ---- making an archive

-- a journal without entries where there was none, or the file that was there
abbrev pub IsCreatedNow : List ℕ → List ℕ → Type 0
IsCreatedNow old new = journal.Begins old new ⊎ ((new ≡ old) × IsCreated old)

-- a file that is known can be read
abbrev pub ReadRefuses : Option (List ℕ) → ArchiveFault → Type 0
ReadRefuses view DiskFault = ⊤
ReadRefuses view Memory = ⊤
ReadRefuses view (Format at) = view ≡ None
ReadRefuses view NotCreated = ⊥
ReadRefuses view Exists = ⊥
ReadRefuses view MustReopen = ⊥
ReadRefuses view (fault.Stopped told) = ⊥
ReadRefuses view TooMany = ⊥

-- ---- a plan's text

-- a text that begins with a plan's first line
abbrev pub first_of : ℕ → ℕ → List ℕ → List ℕ
first_of me via rest = first_line (record { me = me; via = via; stations = [] }) ++ rest

-- A line of a station is refused after the lines of this plan, or there is none left.
pub record StationRefused (old : Plan) (text : List ℕ) (line : ℕ) : Type 0 where
  pub before : Plan
  pub rest : List ℕ
  pub me : before.me ≡ old.me
  pub via : before.via ≡ old.via
  pub begun : IsBegun before
  pub parts : text ≡ flat_map station_line before.stations ++ rest
  pub breaks : CannotGoOn before rest
  pub place : line ≡ length before.stations + 2

abbrev pub LineRefuses : Plan → List ℕ → PlanFault → Type 0
LineRefuses old text (plan_fault.Line n) = StationRefused old text n
LineRefuses old text plan_fault.Memory = ⊤

-- the lines of these stations were read
pub record ReadsLines (old : Plan) (text : List ℕ) (draft : Plan) (rest : List ℕ) (line : ℕ) : Type 0 where
  pub me : draft.me ≡ old.me
  pub via : draft.via ≡ old.via
  pub begun : IsBegun draft
  pub parts : text ≡ flat_map station_line draft.stations ++ rest
  pub place : line ≡ length draft.stations + 2

-- What `export` does: the rows of a table of an archive as CSV, all or those of a range.
use Rattle.std.specs.Prelude.{◌≡◌, ℕ, List, Option, None, Some, Result, Ok, Err, min, position, slice_get, codes}
use Rattle.std.specs.Io.KnownBytes.{Appends}
use Rattle.pb_base.specs.declared.numbers.TableId.{TableId}
use Rattle.pb_archive.specs.Find.{has_name, table_at}
use Rattle.pb_archive.specs.Opened.{Register}
use Rattle.pb_archive.specs.Rows.{SeenRow}
use Rattle.pb_archive.specs.declared.fault.ArchiveFault.{ArchiveFault}
use Rattle.pb_archive.specs.declared.fault.ArchiveFault.TheVariants as fault
use Rattle.pb_archive.specs.declared.held.Held.{Held}
use Rattle.pb_csv.specs.CsvText.{csv_lines, csv_text}
use Rattle.pb_csv.specs.Export.{AppendsLines, IsRange, Range}
use Rattle.pb_csv.specs.declared.fault.ExportFault.{ExportFault}
use Rattle.pb_csv.specs.declared.fault.ExportFault.TheVariants.{WriteFault, DiskFault, Format, Memory}
use Rattle.pb_io.specs.Crash.{Changes}
use Rattle.pb_io.specs.Faults.{Rose}
use Rattle.pb_io.specs.Outside.{Talk}
use Rattle.pb_io.specs.Sink.{AppendsPrefix}
use Rattle.pb_io.specs.View.{View}
use Rattle.pb_journal.specs.Changes.{SameEntries}
use Rattle.pb_tool.specs.Check.{Means}
use Rattle.pb_tool.specs.Closing.{Closes}
use Rattle.pb_tool.specs.Refusal.{refusal_text, refusal_status}
use Rattle.pb_tool.specs.declared.status.Status.{Status}
use Rattle.pb_tool.specs.declared.status.Status.TheVariants as status
use Rattle.pb_tool.specs.declared.words.Asked as words
use Rattle.pb_tool.specs.declared.words.Numbers.{Numbers}

-- Which rows are asked for: those of the first table of a name at the station of a name, all or those of some numbers.
pub record Asked : Type 0 where
  pub station : List ℕ
  pub table : List ℕ
  pub numbers : Option Numbers

abbrev pub asked_by : words.Asked → Asked
asked_by asked = record { station = asked.station.now; table = asked.table.now; numbers = asked.numbers }

-- the place of the first table of a name at the station of a name
abbrev pub place_named : Register → Asked → Option TableId
place_named r asked = table_at asked.table r.tables (position (has_name asked.station) r.plan.stations)

-- ---- the range

abbrev pub first_number : Option Numbers → ℕ → ℕ
first_number None front = 0
first_number (Some n) front = min n.from.0 front

abbrev pub end_number : Option Numbers → ℕ → ℕ
end_number None front = front
end_number (Some n) front = min n.to.0 front

-- the numbers that are asked for, cut to the table's front
abbrev pub range_of : ℕ → Option Numbers → Held → Range
range_of id numbers held =
    record { id = id; from = first_number numbers held.front; to = end_number numbers held.front }

-- ---- what is written

-- the first of these lines, each of them whole, and then the closing line, or a prefix of that where it couldn't be written
pub record BreaksOff (why : ArchiveFault) (result : Status) (lines : List (List ℕ)) (old new : Option (List ℕ)) : Type 0 where
  pub between : Option (List ℕ)
  pub appends : AppendsLines old between lines
  pub closed : Closes (refusal_status why) result (refusal_text why) between new

-- What was written of a table's rows, by how it ended: the whole text, a prefix of it, or whole lines and the closing line.
abbrev pub Writes : Result Unit ExportFault → Status → Held → List SeenRow → Option (List ℕ) → Option (List ℕ) → Type 0
Writes (Ok done) result held rows old new = (result ≡ status.Done) × Appends old new (csv_text held.table.fields rows)
Writes (Err WriteFault) result held rows old new =
    (result ≡ status.WriteFault) × AppendsPrefix old new (csv_text held.table.fields rows)
Writes (Err DiskFault) result held rows old new = BreaksOff fault.DiskFault result (csv_lines held.table.fields rows) old new
Writes (Err (Format at)) result held rows old new = BreaksOff (fault.Format at) result (csv_lines held.table.fields rows) old new
Writes (Err Memory) result held rows old new =
    (result ≡ status.Memory) × AppendsLines old new (csv_lines held.table.fields rows)

-- why it ended early: a call of the disk failed, or the file isn't known
abbrev pub HasCause : Result Unit ExportFault → View → View → Type 0
HasCause (Err DiskFault) before after = Rose before.faults after.faults
HasCause (Err (Format at)) before after = before.file ≡ None
HasCause (Err WriteFault) before after = Unit {0}
HasCause (Err Memory) before after = Unit {0}
HasCause (Ok done) before after = Unit {0}

-- What was written of the table at a place. Where the file is known, the rows are those of the range in its archive.
pub record Exports (asked : Asked) (r : Register) (id : ℕ) (result : Status) (before after : Talk) : Type 0 where
  pub held : Held
  pub there : slice_get r.tables id ≡ Some held
  pub rows : List SeenRow
  pub are : IsRange (range_of id asked.numbers held) before.site.file rows
  pub ended : Result Unit ExportFault
  pub cause : HasCause ended before.site after.site
  pub writes : Writes ended result held rows before.out.written after.out.written

abbrev pub unknown_line : List ℕ
unknown_line = codes "pakbus: unknown name\n"

-- by the place of the table of these names
abbrev pub ExportsNamed : Asked → Register → Option TableId → Status → Talk → Talk → Type 0
ExportsNamed asked r None result before after =
    Closes status.Unknown result unknown_line before.out.written after.out.written
ExportsNamed asked r (Some id) result before after = Exports asked r id.0 result before after

-- by what is kept of the archive, which has the same entries afterwards, or why it is refused
abbrev pub Answers : Asked → Result Register ArchiveFault → Status → Talk → Talk → Type 0
Answers asked (Ok r) result before after =
    ExportsNamed asked r (place_named r asked) result before after × Changes SameEntries before.site.file after.site.file
Answers asked (Err fault) result before after =
    Closes (refusal_status fault) result (refusal_text fault) before.out.written after.out.written

-- the row of `export`
pub record RanExport (asked : Asked) (result : Status) (before after : Talk) : Type 0 where
  pub answer : Result Register ArchiveFault
  pub means : Means answer before.site.file
  pub failed : answer ≡ Err fault.DiskFault → Rose before.site.faults after.site.faults
  pub answers : Answers asked answer result before after

-- What `defs` does: the tables that the stations' files define are added to an archive, and a line tells of each.
use Rattle.std.specs.Prelude.{◌≡◌, ℕ, Bool, true, false, List, [], ◌∷◌, ◌++◌, Result, Ok, Err, codes, decimal, if◌then◌else◌}
use Rattle.std.specs.List.{flat_map, list_any}
use Rattle.std.specs.Option.{ForSome}
use Rattle.pb_archive.specs.Opened.{Register}
use Rattle.pb_archive.specs.Plan.{Plan}
use Rattle.pb_archive.specs.Refusals.{OpenRefuses}
use Rattle.pb_archive.specs.declared.fault.ArchiveFault.{ArchiveFault}
use Rattle.pb_collect.specs.Adding.{HoldsAtLeast, StaysOrGrows}
use Rattle.pb_collect.specs.Kept.{AllGoOnBy}
use Rattle.pb_collect.specs.Fetching.{AddedStand, Fetched, FetchedUntil}
use Rattle.pb_collect.specs.declared.fault.DefsFault.{DefsFault}
use Rattle.pb_collect.specs.declared.fault.DefsFault.TheVariants as fault
use Rattle.pb_collect.specs.declared.report.Cause.{Cause}
use Rattle.pb_collect.specs.declared.report.DefsLine.{DefsLine}
use Rattle.pb_collect.specs.declared.report.DefsWhat.{DefsWhat}
use Rattle.pb_collect.specs.declared.report.DefsWhat.TheVariants.{Added, Same, Redefined, NotText, NotFull, Failed, Bad}
use Rattle.pb_io.specs.Outside.{Output}
use Rattle.pb_io.specs.Page.{joined}
use Rattle.pb_io.specs.View.{View}
use Rattle.pb_tool.specs.CauseText.{cause_text}
use Rattle.pb_tool.specs.Check.{IsKeptOf, station_name}
use Rattle.pb_tool.specs.Closing.{Closes}
use Rattle.pb_tool.specs.Collect.{limits_of, signature_text}
use Rattle.pb_tool.specs.Refusal.{disk_fault_line, refusal_text, refusal_status}
use Rattle.pb_tool.specs.declared.status.Status.{Status}
use Rattle.pb_tool.specs.declared.status.Status.TheVariants as status
use Rattle.pb_value.specs.Escape.{name_text}

-- ---- what is printed

-- ` TABLE NUMBER SIGNATURE WHAT`
unfoldable pub table_text : DefsLine → List ℕ → List ℕ
table_text line what =
    joined (codes " " ∷ name_text line.name ∷ codes " " ∷ decimal line.number.0 ∷ codes " " ∷ signature_text line.sig ∷ what ∷ [])

-- ` TABLE NUMBER SIGNATURE redefined OLD`
unfoldable pub redefined_text : DefsLine → ℕ → List ℕ
redefined_text line old = joined (table_text line (codes " redefined ") ∷ signature_text old ∷ codes "\n" ∷ [])

-- ` - CAUSE`
unfoldable pub failed_text : Cause → List ℕ
failed_text cause = joined (codes " - " ∷ cause_text cause ∷ codes "\n" ∷ [])

-- what comes after the station's name: of a table, or of the station
unfoldable pub rest_text : DefsLine → DefsWhat → List ℕ
rest_text line Added = table_text line (codes " added\n")
rest_text line Same = table_text line (codes " same\n")
rest_text line (Redefined old) = redefined_text line old
rest_text line NotText = table_text line (codes " not collected text\n")
rest_text line NotFull = table_text line (codes " not collected full\n")
rest_text line (Failed cause) = failed_text cause
rest_text line (Bad at) = joined (codes " - bad definitions at " ∷ decimal at ∷ codes "\n" ∷ [])

unfoldable pub line_text : Plan → DefsLine → List ℕ
line_text plan line = joined (name_text (station_name plan line.station) ∷ rest_text line line.what ∷ [])

abbrev pub report_text : Plan → List DefsLine → List ℕ
report_text plan lines = flat_map (line_text plan) lines

-- the line says that something isn't collected which might be
abbrev pub is_starred : DefsWhat → Bool
is_starred Added = false
is_starred Same = false
is_starred (Redefined old) = true
is_starred NotText = false
is_starred NotFull = true
is_starred (Failed cause) = true
is_starred (Bad at) = true

abbrev pub has_starred : List DefsLine → Bool
has_starred lines = list_any (λ line. is_starred line.what) lines

-- ---- what it means

-- the definitions were read: what is kept of the archive before and after it, and the lines
pub record Reading : Type 0 where
  pub result : Result Unit DefsFault
  pub before : Register
  pub after : Register
  pub lines : List DefsLine

-- The stations were asked one after the other, and these lines say what came of it; or it was broken off.
abbrev pub ReadsBy : Result Unit DefsFault → List DefsLine → View → View → Register → Register → Type 0
ReadsBy (Ok done) lines old new before after = Fetched (limits_of 1) lines old.link new.link before after
ReadsBy (Err fault) lines old new before after = FetchedUntil fault (limits_of 1) lines old.link new.link before after

-- What came of it over a site that was so before and after: what was asked and heard, and what each file that a crash may
-- leave has.
pub record Came (r : Reading) (old new : View) : Type 0 where
  pub reads : ReadsBy r.result r.lines old new r.before r.after
  pub stand : AddedStand r.lines new
  pub holds : HoldsAtLeast r.after new

-- the closing line where it was broken off; want of memory has none
unfoldable pub broken_line : DefsFault → List ℕ
broken_line fault.DiskFault = disk_fault_line
broken_line fault.LinkFault = codes "pakbus: link fault\n"
broken_line fault.Memory = []

abbrev pub fault_line : Result Unit DefsFault → List ℕ
fault_line (Ok done) = []
fault_line (Err fault) = broken_line fault

abbrev pub reading_text : Reading → List ℕ
reading_text r = report_text r.after.plan r.lines ++ fault_line r.result

abbrev pub result_status : Result Unit DefsFault → Bool → Status
result_status (Ok done) starred = if starred then status.Incomplete else status.Done
result_status (Err fault.DiskFault) starred = status.DiskFault
result_status (Err fault.LinkFault) starred = status.LinkFault
result_status (Err fault.Memory) starred = status.Memory

abbrev pub reading_status : Reading → Status
reading_status r = result_status r.result (has_starred r.lines)

-- It was over the archive in the file as it read at entry, and whatever a crash leaves goes on from that.
pub record Reads (r : Reading) (old new : View) : Type 0 where
  pub kept : ForSome old.file (IsKeptOf r.before)
  pub came : Came r old new
  pub goes_on : AllGoOnBy StaysOrGrows old.file new

abbrev pub Means : Result Reading ArchiveFault → View → View → Type 0
Means (Ok r) old new = Reads r old new
Means (Err fault) old new = OpenRefuses old.file fault × (new.link ≡ old.link)

unfoldable pub answer_text : Result Reading ArchiveFault → List ℕ
answer_text (Ok r) = reading_text r
answer_text (Err fault) = refusal_text fault

abbrev pub answer_status : Result Reading ArchiveFault → Status
answer_status (Ok r) = reading_status r
answer_status (Err fault) = refusal_status fault

-- the row of `defs`
pub record RanDefs (result : Status) (before after : View) (out_before out_after : Output) : Type 0 where
  pub answer : Result Reading ArchiveFault
  pub means : Means answer before after
  pub printed : Closes (answer_status answer) result (answer_text answer) out_before.written out_after.written

-- the same over an archive that is open
pub record RanReading (result : Status) (first : Register) (before after : View) (out_before out_after : Output) : Type 0 where
  pub reading : Reading
  pub is : reading.before ≡ first
  pub came : Came reading before after
  pub printed : Closes (reading_status reading) result (reading_text reading) out_before.written out_after.written

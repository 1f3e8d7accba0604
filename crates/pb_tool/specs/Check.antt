-- What `check` prints of an archive: a line for each of its tables.
use Rattle.std.specs.Prelude.{◌≡◌, ℕ, ◌-◌, List, [], ◌∷◌, ◌++◌, Option, None, Some, Result, Ok, Err, slice_get, codes, decimal}
use Rattle.std.specs.List.{flat_map}
use Rattle.std.specs.Option.{ForSome}
use Rattle.pb_archive.specs.Archive.{Archive}
use Rattle.pb_archive.specs.Held.{HasArchive}
use Rattle.pb_archive.specs.Opened.{OpenArchive, Register, kept_of, register_of}
use Rattle.pb_archive.specs.Plan.{Plan}
use Rattle.pb_archive.specs.Refusals.{OpenRefuses}
use Rattle.pb_archive.specs.declared.fault.ArchiveFault.{ArchiveFault}
use Rattle.pb_archive.specs.declared.held.Held.{Held}
use Rattle.pb_archive.specs.declared.plan.StationPlan.{StationPlan}
use Rattle.pb_archive.specs.declared.table_view.Stop.{Stop}
use Rattle.pb_io.specs.Crash.{Changes}
use Rattle.pb_io.specs.Outside.{Output}
use Rattle.pb_io.specs.Page.{joined}
use Rattle.pb_io.specs.View.{View}
use Rattle.pb_journal.specs.Changes.{Keeps}
use Rattle.pb_tool.specs.Closing.{Closes}
use Rattle.pb_tool.specs.Refusal.{refusal_text, refusal_status}
use Rattle.pb_tool.specs.declared.status.Status.{Status}
use Rattle.pb_tool.specs.declared.status.Status.TheVariants as status
use Rattle.pb_value.specs.Escape.{name_text}

abbrev pub name_in : Option StationPlan → List ℕ
name_in None = []
name_in (Some s) = s.name

-- the name of the station of this place
abbrev pub station_name : Plan → ℕ → List ℕ
station_name plan n = name_in (slice_get plan.stations n)

abbrev pub stop_text : Option Stop → List ℕ
stop_text None = codes "\n"
stop_text (Some stop) = codes " stopped\n"

-- ` front F kept K gap G`, and ` stopped` where the table has a stop
unfoldable pub numbers_text : Held → List ℕ
numbers_text t =
    joined (codes " front " ∷ decimal t.front ∷ codes " kept " ∷ decimal (t.front - t.gaps) ∷ codes " gap "
    ∷ decimal t.gaps ∷ stop_text t.stop ∷ [])

-- `STATION TABLE`
abbrev pub names_text : Plan → Held → List ℕ
names_text plan t = joined (name_text (station_name plan t.station) ∷ codes " " ∷ name_text t.table.name ∷ [])

-- `STATION TABLE front F kept K gap G`
unfoldable pub table_text : Plan → Held → List ℕ
table_text plan t = names_text plan t ++ numbers_text t

unfoldable pub check_text : Register → List ℕ
check_text r = flat_map (table_text r.plan) r.tables

-- ---- the answer

-- what is kept of the archive that was opened, or why it is refused
abbrev pub answered : Result OpenArchive ArchiveFault → Result Register ArchiveFault
answered (Ok o) = Ok (register_of o)
answered (Err fault) = Err fault

unfoldable pub answer_text : Result Register ArchiveFault → List ℕ
answer_text (Ok r) = check_text r
answer_text (Err fault) = refusal_text fault

abbrev pub answer_status : Result Register ArchiveFault → Status
answer_status (Ok r) = status.Done
answer_status (Err fault) = refusal_status fault

-- this is kept of the archive in the file
abbrev pub IsKeptOf : Register → List ℕ → Type 0
IsKeptOf r file = (a : Archive) × HasArchive file a × (r ≡ kept_of a)

-- what the answer means of the file as it read at entry
abbrev pub Means : Result Register ArchiveFault → Option (List ℕ) → Type 0
Means (Ok r) file = ForSome file (IsKeptOf r)
Means (Err fault) file = OpenRefuses file fault

-- the row of `check`, which leaves the file as it was, or its entries, whatever it answers
pub record RanCheck (result : Status) (before after : View) (out_before out_after : Output) : Type 0 where
  pub answer : Result Register ArchiveFault
  pub means : Means answer before.file
  pub file : Changes Keeps before.file after.file
  pub printed : Closes (answer_status answer) result (answer_text answer) out_before.written out_after.written

-- What `init` does: the archive of the plan that the input is.
use Rattle.std.specs.Prelude.{◌≡◌, ◌⊎◌, ℕ, ◌≤◌, List, [], Option, Result, Ok, Err}
use Rattle.pb_archive.specs.Creation.{Inits, KeepsOrInits}
use Rattle.pb_archive.specs.Plan.{Plan, PlanText, RefusedLine}
use Rattle.pb_archive.specs.Refusals.{InitRefuses}
use Rattle.pb_archive.specs.declared.fault.ArchiveFault.TheVariants as archive
use Rattle.pb_io.specs.Crash.{Changes}
use Rattle.pb_io.specs.Faults.{Rose}
use Rattle.pb_io.specs.Outside.{Outside}
use Rattle.pb_io.specs.Settled.{Leaves}
use Rattle.pb_io.specs.Site.{SendsAtMost}
use Rattle.pb_io.specs.View.{View, LeavesOnly}
use Rattle.pb_tool.specs.Closing.{Closes}
use Rattle.pb_tool.specs.Input.{ReadsWhole, InputRefuses, input_fault_text, input_status, line_text}
use Rattle.pb_tool.specs.Refusal.{refusal_text, refusal_status}
use Rattle.pb_tool.specs.declared.init.InitFault.{InitFault}
use Rattle.pb_tool.specs.declared.init.InitFault.TheVariants.{Input, Line, Archive, Memory}
use Rattle.pb_tool.specs.declared.input.InputFault.TheVariants as input
use Rattle.pb_tool.specs.declared.status.Status.{Status}
use Rattle.pb_tool.specs.declared.status.Status.TheVariants as status

-- the most bytes of a plan's text
abbrev pub plan_text_max : ℕ
plan_text_max = 16384

-- ---- what it prints

unfoldable pub fault_text : InitFault → List ℕ
fault_text (Input fault) = input_fault_text plan_text_max fault
fault_text (Line n) = line_text n
fault_text (Archive fault) = refusal_text fault
fault_text Memory = []

unfoldable pub answer_text : Result Unit InitFault → List ℕ
answer_text (Ok done) = []
answer_text (Err fault) = fault_text fault

abbrev pub fault_status : InitFault → Status
fault_status (Input fault) = input_status fault
fault_status (Line n) = status.Format
fault_status (Archive fault) = refusal_status fault
fault_status Memory = status.Memory

abbrev pub answer_status : Result Unit InitFault → Status
answer_status (Ok done) = status.Done
answer_status (Err fault) = fault_status fault

-- ---- what it does

-- the input was read whole, and is the text of this plan
pub record IsPlanOf (left_old left_new : Option (List ℕ)) (plan : Plan) : Type 0 where
  pub text : List ℕ
  pub reads : ReadsWhole plan_text_max left_old left_new text
  pub is : PlanText plan text

-- the input was read whole, and this line of it is the first that no plan has
pub record RefusesLine (left_old left_new : Option (List ℕ)) (line : ℕ) : Type 0 where
  pub text : List ℕ
  pub reads : ReadsWhole plan_text_max left_old left_new text
  pub refused : RefusedLine text line

-- What an answer means, of the file and of the input. Where the archive is refused, for whatever cause, the file is as it
-- was, or has its entries; or it had no archive, and has none or the new one. Else it isn't touched.
abbrev pub Means : Result Unit InitFault → (file_old file_new left_old left_new : Option (List ℕ)) → Type 0
Means (Ok done) file_old file_new left_old left_new = (plan : Plan) × IsPlanOf left_old left_new plan
    × Changes (Inits plan) file_old file_new
Means (Err (Input fault)) file_old file_new left_old left_new = InputRefuses plan_text_max left_old left_new fault
    × (file_new ≡ file_old)
Means (Err (Line n)) file_old file_new left_old left_new = RefusesLine left_old left_new n × (file_new ≡ file_old)
Means (Err (Archive fault)) file_old file_new left_old left_new = ((plan : Plan) × IsPlanOf left_old left_new plan
    × Changes (KeepsOrInits plan) file_old file_new)
    × InitRefuses file_old fault
Means (Err Memory) file_old file_new left_old left_new = file_new ≡ file_old

-- What a crash may leave: the disk wasn't touched; or a file with the entries that it had, or, where it had no archive,
-- none or that of the plan.
abbrev pub MayLeaveBy : (left_old left_new : Option (List ℕ)) → View → View → Type 0
MayLeaveBy left_old left_new old new = LeavesOnly old new (SendsAtMost [] old)
    ⊎ ((plan : Plan) × IsPlanOf left_old left_new plan × Leaves (KeepsOrInits plan) old new)

-- One count: it rose where the answer says so, and stays with any other answer.
pub record CountsOf (answer : Result Unit InitFault) (reads_old reads_new disk_old disk_new : ℕ) : Type 0 where
  pub reads_later : reads_old ≤ reads_new
  pub reads_rose : answer ≡ Err (Input input.ReadFault) → Rose reads_old reads_new
  pub reads_kept : (answer ≡ Err (Input input.ReadFault) → ⊥) → reads_new ≡ reads_old
  pub disk_later : disk_old ≤ disk_new
  pub disk_rose : answer ≡ Err (Archive archive.DiskFault) → Rose disk_old disk_new
  pub disk_kept : (answer ≡ Err (Archive archive.DiskFault) → ⊥) → disk_new ≡ disk_old

-- the row of `init`
pub record RanInit (result : Status) (before after : Outside) : Type 0 where
  pub answer : Result Unit InitFault
  pub means : Means answer before.site.file after.site.file before.input.left after.input.left
  pub printed : Closes (answer_status answer) result (answer_text answer) before.out.written after.out.written

abbrev pub InitLeaves : Outside → Outside → Type 0
InitLeaves before after = MayLeaveBy before.input.left after.input.left before.site after.site

-- What `serve` does: the station of the script that the input is answers on the link.
use Rattle.std.specs.Prelude.{◌≡◌, ℕ, ◌≤◌, List, [], Option, Result, Ok, Err, codes}
use Rattle.pb_base.specs.World.{World}
use Rattle.pb_io.specs.Faults.{Rose}
use Rattle.pb_io.specs.Outside.{Outside}
use Rattle.pb_io.specs.Site.{GrowsBy}
use Rattle.pb_io.specs.View.{Link, LeavesOnly}
use Rattle.pb_script.specs.Script.{Script}
use Rattle.pb_script.specs.ScriptText.{ServedText, RefusedLine}
use Rattle.pb_script.specs.Station.{state_of}
use Rattle.pb_serve.specs.Serving.{Ends, SentInTime}
use Rattle.pb_serve.specs.Talks.{Between}
use Rattle.pb_serve.specs.declared.server.End.{End}
use Rattle.pb_serve.specs.declared.server.End.TheVariants.{Done, Idle, Flooded, LinkFault}
use Rattle.pb_tool.specs.Closing.{Closes}
use Rattle.pb_tool.specs.Input.{ReadsWhole, InputRefuses, input_fault_text, input_status, line_text}
use Rattle.pb_tool.specs.declared.input.InputFault.TheVariants as input
use Rattle.pb_tool.specs.declared.serve.ServeFault.{ServeFault}
use Rattle.pb_tool.specs.declared.serve.ServeFault.TheVariants.{Input, Line, Memory}
use Rattle.pb_tool.specs.declared.status.Status.{Status}
use Rattle.pb_tool.specs.declared.status.Status.TheVariants as status

-- the most bytes of a script's text
abbrev pub script_text_max : ℕ
script_text_max = 1048576

-- ---- what it prints

unfoldable pub end_text : End → List ℕ
end_text Done = []
end_text Idle = codes "idle\n"
end_text Flooded = codes "flooded\n"
end_text LinkFault = codes "pakbus: link fault\n"

unfoldable pub fault_text : ServeFault → List ℕ
fault_text (Input fault) = input_fault_text script_text_max fault
fault_text (Line n) = line_text n
fault_text Memory = []

unfoldable pub answer_text : Result End ServeFault → List ℕ
answer_text (Ok end) = end_text end
answer_text (Err fault) = fault_text fault

abbrev pub end_status : End → Status
end_status Done = status.Done
end_status Idle = status.Incomplete
end_status Flooded = status.Incomplete
end_status LinkFault = status.LinkFault

abbrev pub fault_status : ServeFault → Status
fault_status (Input fault) = input_status fault
fault_status (Line n) = status.Format
fault_status Memory = status.Memory

abbrev pub answer_status : Result End ServeFault → Status
answer_status (Ok end) = end_status end
answer_status (Err fault) = fault_status fault

-- ---- what it does

-- the input was read whole, and is the text of this script
pub record IsScriptOf (left_old left_new : Option (List ℕ)) (script : Script) : Type 0 where
  pub text : List ℕ
  pub reads : ReadsWhole script_text_max left_old left_new text
  pub is : ServedText script text

-- the input was read whole, and this line of it is the first that is refused
pub record RefusesScript (left_old left_new : Option (List ℕ)) (line : ℕ) : Type 0 where
  pub text : List ℕ
  pub reads : ReadsWhole script_text_max left_old left_new text
  pub refused : RefusedLine text line

-- The world grew by the events of the script's station on its link, which was to hear so many good frames, and they ended
-- so. Before each quiet tick all was sent that was owed for what came before it.
pub record Serves (script : Script) (frames : ℕ) (link_old link_new : Link) (end : End) : Type 0 where
  pub events : World
  pub grows : GrowsBy link_old.world link_new.world events
  pub ends : Ends (state_of script) frames events end
  pub in_time : SentInTime (state_of script) events

-- What an answer means, of the input and of the link. Where the script is refused, the link isn't touched.
abbrev pub Means : Result End ServeFault → ℕ → (left_old left_new : Option (List ℕ)) → (link_old link_new : Link) → Type 0
Means (Ok end) frames left_old left_new link_old link_new =
    (script : Script) × IsScriptOf left_old left_new script × Serves script frames link_old link_new end
Means (Err (Input fault)) frames left_old left_new link_old link_new =
    InputRefuses script_text_max left_old left_new fault × (link_new ≡ link_old)
Means (Err (Line n)) frames left_old left_new link_old link_new = RefusesScript left_old left_new n × (link_new ≡ link_old)
Means (Err Memory) frames left_old left_new link_old link_new = link_new ≡ link_old

-- One count: it rose where the answer says so, and stays with any other answer.
pub record CountsOf (answer : Result End ServeFault) (reads_old reads_new links_old links_new : ℕ) : Type 0 where
  pub reads_later : reads_old ≤ reads_new
  pub reads_rose : answer ≡ Err (Input input.ReadFault) → Rose reads_old reads_new
  pub reads_kept : (answer ≡ Err (Input input.ReadFault) → ⊥) → reads_new ≡ reads_old
  pub links_later : links_old ≤ links_new
  pub links_rose : answer ≡ Ok LinkFault → Rose links_old links_new
  pub links_kept : (answer ≡ Ok LinkFault → ⊥) → links_new ≡ links_old

-- the row of `serve`
pub record RanServe (frames : ℕ) (result : Status) (before after : Outside) : Type 0 where
  pub answer : Result End ServeFault
  pub means : Means answer frames before.input.left after.input.left before.site.link after.site.link
  pub printed : Closes (answer_status answer) result (answer_text answer) before.out.written after.out.written

-- a crash leaves an image of before, and the world of before with a prefix of what the call adds
abbrev pub ServeLeaves : Outside → Outside → Type 0
ServeLeaves before after = LeavesOnly before.site after.site (Between before.site after.site)

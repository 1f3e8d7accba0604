-- What `ping` prints, and its status, by its answer.
use Rattle.std.specs.Prelude.{◌≡◌, ℕ, List, [], ◌∷◌, ◌++◌, Result, Ok, Err, codes, decimal}
use Rattle.pb_base.specs.declared.nsec.Nsec.{Nsec}
use Rattle.pb_collect.specs.declared.report.Cause.{Cause}
use Rattle.pb_io.specs.Faults.{Rose}
use Rattle.pb_io.specs.Outside.{Talk}
use Rattle.pb_io.specs.Page.{joined}
use Rattle.pb_tool.specs.declared.ping.answer.Pinged.{Pinged}
use Rattle.pb_tool.specs.declared.ping.answer.PingFault.{PingFault}
use Rattle.pb_tool.specs.declared.ping.answer.PingFault.TheVariants as fault
use Rattle.pb_tool.specs.declared.status.Status.{Status}
use Rattle.pb_tool.specs.declared.status.Status.TheVariants as status
use Rattle.pb_tool.specs.CauseText.{cause_text}
use Rattle.pb_tool.specs.Ping.{Pinging}
use Rattle.pb_tool.specs.Closing.{Closes}
use Rattle.pb_value.specs.TimeText.{time_text}

-- `hello NODE router B metric B verify H`
unfoldable pub hello_line : (node router metric verify : ℕ) → List ℕ
hello_line node router metric verify = joined (
    codes "hello " ∷ decimal node ∷ codes " router " ∷ decimal router ∷ codes " metric " ∷ decimal metric
    ∷ codes " verify " ∷ decimal verify ∷ codes "\n" ∷ [])

-- how the other lines start: `WORD NODE `, where the word ends with its space
abbrev pub line_start : List ℕ → ℕ → List ℕ
line_start word node = joined (word ∷ decimal node ∷ codes " " ∷ [])

-- `clock NODE TIME`
unfoldable pub clock_line : ℕ → Nsec → List ℕ
clock_line node time = joined (line_start (codes "clock ") node ∷ time_text time ∷ codes "\n" ∷ [])

-- `hello NODE CAUSE`
unfoldable pub no_hello_line : ℕ → Cause → List ℕ
no_hello_line node cause = joined (line_start (codes "hello ") node ∷ cause_text cause ∷ codes "\n" ∷ [])

-- `clock NODE CAUSE`
unfoldable pub no_clock_line : ℕ → Cause → List ℕ
no_clock_line node cause = joined (line_start (codes "clock ") node ∷ cause_text cause ∷ codes "\n" ∷ [])

unfoldable pub fault_text : ℕ → PingFault → List ℕ
fault_text node fault.LinkFault = codes "pakbus: link fault\n"
fault_text node (fault.Hello cause) = no_hello_line node cause
fault_text node (fault.Clock cause router metric verify) = hello_line node router metric verify ++ no_clock_line node cause

unfoldable pub ping_text : ℕ → Result Pinged PingFault → List ℕ
ping_text node (Ok p) = hello_line node p.router p.metric p.verify ++ clock_line node p.time
ping_text node (Err f) = fault_text node f

abbrev pub ping_status : Result Pinged PingFault → Status
ping_status (Ok p) = status.Done
ping_status (Err fault.LinkFault) = status.LinkFault
ping_status (Err (fault.Hello cause)) = status.Incomplete
ping_status (Err (fault.Clock cause router metric verify)) = status.Incomplete

-- The row of `ping`: the world grew by the events that the answer means, and the answer's text was written, or a prefix
-- of it where a write failed. A link fault is said only where one came in this call.
pub record RanPing (me node : ℕ) (result : Status) (before after : Talk) : Type 0 where
  pub answer : Result Pinged PingFault
  pub pinging : Pinging me node before.site.link after.site.link answer
  pub printed : Closes (ping_status answer) result (ping_text node answer) before.out.written after.out.written
  pub fault : answer ≡ Err fault.LinkFault → Rose before.site.link.faults after.site.link.faults

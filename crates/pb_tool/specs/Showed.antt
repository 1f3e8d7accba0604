-- What `show` read and wrote, by its status.
use Rattle.std.specs.Prelude.{◌≡◌, ℕ, ◌≤◌, ◌⊎◌, List, ◌++◌, Bool, true, false, Option, Some, IfSome, length}
use Rattle.std.specs.Io.KnownBytes.{Appends, Consumes, IsAtEnd}
use Rattle.pb_io.specs.Faults.{Rose, counted}
use Rattle.pb_io.specs.Outside.{Streams}
use Rattle.pb_io.specs.Sink.{AppendsPrefix}
use Rattle.pb_frame.specs.Framing.{verdicts}
use Rattle.pb_tool.specs.declared.status.Status.{Status}
use Rattle.pb_tool.specs.declared.status.Status.TheVariants.{Done, ReadFault, WriteFault, Format}
use Rattle.pb_show.specs.LineText.{lines}
use Rattle.pb_tool.specs.ShowText.{show_limit, written_of, is_refused, is_past_limit, read_fault_line}

-- All that `show` writes of the input was written, the status says whether it is refused, and it was read to its end
-- or past its limit.
pub record ShowsAll (refused : Bool) (left_new written_old written_new : Option (List ℕ)) (input : List ℕ) : Type 0 where
  pub status : is_refused input ≡ refused
  pub written : Appends written_old written_new (written_of input)
  pub ended : is_past_limit input ≡ false → IsAtEnd left_new

-- the lines of all verdicts of the bytes that were taken, and the closing line
pub record ShowsTaken (left_new written_old written_new : Option (List ℕ)) (input : List ℕ) : Type 0 where
  pub taken : List ℕ
  pub consumes : Consumes (Some input) left_new taken
  pub within : length taken ≤ show_limit
  pub written : Appends written_old written_new (lines (verdicts taken) ++ read_fault_line)

-- a front of the lines of the verdicts of a front of the input, and the closing line
pub record ShowsFront (written_old written_new : Option (List ℕ)) (input : List ℕ) : Type 0 where
  pub taken : List ℕ
  pub rest : List ℕ
  pub split : input ≡ taken ++ rest
  pub written : AppendsPrefix written_old written_new (lines (verdicts taken) ++ read_fault_line)

-- one read gives at most so many bytes
abbrev pub chunk_size : ℕ
chunk_size = 65536

-- `show` reads and writes by turns: of all that it took, at most up to its limit, the lines were written, but for
-- what came with the read that was the last.
pub record TakesTurns (left_new written_old written_new : Option (List ℕ)) (input : List ℕ) : Type 0 where
  pub taken : List ℕ
  pub chunk : List ℕ
  pub more : List ℕ
  pub consumes : Consumes (Some input) left_new (taken ++ chunk)
  pub within : length taken ≤ show_limit
  pub few : length chunk ≤ chunk_size
  pub written : Appends written_old written_new (lines (verdicts taken) ++ more)

-- the end of the input was found once, or not at all
abbrev pub EndsOnce : ℕ → ℕ → Type 0
EndsOnce before now = (now ≡ before) ⊎ (now ≡ counted before)

-- The end was found where `show` did all of its work, and wasn't where a read failed. It is never looked for again.
abbrev pub FindsEnd : Status → ℕ → ℕ → Type 0
FindsEnd Done before now = now ≡ counted before
FindsEnd ReadFault before now = now ≡ before
FindsEnd _ before now = EndsOnce before now

-- `show`: no other status comes. After a failed write a front of one of two texts was written: of all that `show`
-- writes, or, where a read failed, of whole lines from its front and the closing line.
abbrev pub Showed : Status → Option (List ℕ) → Option (List ℕ) → Option (List ℕ) → Option (List ℕ) → Type 0 → Type 0
Showed Done left_old left_new written_old written_new read_failed = IsAtEnd left_new
    × IfSome left_old (ShowsAll false left_new written_old written_new)
Showed Format left_old left_new written_old written_new read_failed =
    IfSome left_old (ShowsAll true left_new written_old written_new)
Showed ReadFault left_old left_new written_old written_new read_failed =
    IfSome left_old (ShowsTaken left_new written_old written_new)
Showed WriteFault left_old left_new written_old written_new read_failed =
    IfSome left_old
    (λ input. AppendsPrefix written_old written_new (written_of input)
    ⊎ (read_failed × ShowsFront written_old written_new input))
Showed _ left_old left_new written_old written_new read_failed = ⊥

-- the row of `show`
pub record RanShow (result : Status) (before after : Streams) : Type 0 where
  pub showed : Showed result before.input.left after.input.left before.out.written after.out.written
      (Rose before.input.faults after.input.faults)
  pub turns : IfSome before.input.left (TakesTurns after.input.left before.out.written after.out.written)
  pub ends : FindsEnd result before.input.ends after.input.ends

-- How long is waited after a sending.
use Rattle.std.specs.Prelude.{◌≡◌, ℕ, ◌+◌, ◌-◌, ◌^◌, ◌≤◌, min, List, [], ◌++◌}
use Rattle.pb_base.specs.World.{World, all_heard, bytes_heard, quiet_ticks}
use Rattle.pb_frame.specs.Framing.{Verdict}
use Rattle.pb_trans.specs.declared.asked.Asked.{Asked}
use Rattle.pb_trans.specs.declared.asked.Limits.{Limits}
use Rattle.pb_trans.specs.Waiting.{ticks_after_wait}
use Rattle.pb_ask.specs.Judging.{NoneShows, LastShows}
use Rattle.pb_ask.specs.Wanted.{AsksToWait}

-- A count rose by so many; at its type's end it stands still.
pub record RoseBy (n before now : ℕ) : Type 0 where
  pub least : min (before + n) (2 ^ 64 - 1) ≤ now
  pub most : now ≤ before + n

-- How many quiet ticks these verdicts set, and after which events: from then on the ticks are counted. `Shown bytes vs`
-- says that the bytes, from those that were at hand at the sending on, show vs.
pub data IsSet (Shown : List ℕ → List Verdict → Type 0) (hand : List ℕ) (asked : Asked) (limits : Limits) : World
    → List Verdict → ℕ → Type 0 where
  -- the limit, from the sending on
  BySending : IsSet Shown hand asked limits [] [] limits.quiets
  -- the limit and the seconds of a please-wait, from the sending on: its frame was at hand
  AtHand : (taken rest : List ℕ) (shown : List Verdict) (seconds : ℕ) → hand ≡ taken ++ rest → Shown taken shown
      → LastShows (AsksToWait asked) seconds shown
      → IsSet Shown hand asked limits [] shown (ticks_after_wait limits seconds)
  -- the limit and the seconds of a please-wait, from the chunk on in which its frame ended
  ByChunk : (earlier : World) (taken rest : List ℕ) (shown more : List Verdict) (seconds : ℕ)
      → Shown (hand ++ bytes_heard earlier) shown
      → Shown ((hand ++ bytes_heard earlier) ++ taken) (shown ++ more) → LastShows (AsksToWait asked) seconds more
      → IsSet Shown hand asked limits (earlier ++ all_heard (taken ++ rest)) (shown ++ more) (ticks_after_wait limits seconds)

-- So many quiet ticks are still to be heard: those that the sending set, or the last please-wait after it, less those
-- that were quiet since.
pub record IsDue (Shown : List ℕ → List Verdict → Type 0) (hand : List ℕ) (asked : Asked) (limits : Limits)
    (heard : World) (shown : List Verdict) (due : ℕ) : Type 0 where
  pub before : World
  pub since : World
  pub first : List Verdict
  pub later : List Verdict
  pub ticks : ℕ
  pub heard_is : heard ≡ before ++ since
  pub shown_are : shown ≡ first ++ later
  pub set : IsSet Shown hand asked limits before first ticks
  pub none_later : NoneShows (AsksToWait asked) later
  pub due_is : due + quiet_ticks since ≡ ticks

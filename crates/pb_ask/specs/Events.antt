-- What is heard meanwhile, and what a crash may leave.
use Rattle.std.specs.Prelude.{◌≡◌, ◌⊎◌, ℕ, ◌<◌, ◌≤◌, List, [], ◌∷◌, ◌++◌, length, All, Some}
use Rattle.pb_base.specs.World.{World, Heard, Quiet, all_heard, sent}
use Rattle.pb_io.specs.Disk.{ReadsOnly}
use Rattle.pb_io.specs.Site.{GrowsBy}
use Rattle.pb_io.specs.View.{View, LeavesOnly}
use Rattle.pb_ask.specs.declared.inbox.TheConstants.{CHUNK}

-- bytes heard and quiet ticks, and nothing else of the stream
abbrev pub HearsOnly : World → Type 0
HearsOnly [] = Unit {0}
HearsOnly (Heard byte ∷ rest) = HearsOnly rest
HearsOnly (Quiet ∷ rest) = HearsOnly rest
HearsOnly (event ∷ rest) = ⊥

-- After the frame taken last nothing was heard but the bytes that wait, which came with its end in one chunk; or
-- nothing was heard, and it was at hand.
abbrev pub CameWith : World → List ℕ → Type 0
CameWith heard waiting =
    (heard ≡ [])
    ⊎ ((earlier : World) × (taken : List ℕ) × (heard ≡ earlier ++ all_heard (taken ++ waiting)) × (0 < length taken)
    × (length (taken ++ waiting) ≤ CHUNK))

-- ---- what a crash may leave

-- this frame alone, at most so often
pub record Repeats (frame : List ℕ) (most : ℕ) (frames : List (List ℕ)) : Type 0 where
  pub each : All (λ f. f ≡ frame) frames
  pub few : length frames ≤ most

-- an image of before, and the world of before, after which this frame alone was sent, at most so often
pub record Resending (frame : List ℕ) (most : ℕ) (old : View) (w : World) (c : List ℕ) : Type 0 where
  pub image : old.image c
  pub before : World
  pub more : World
  pub known : old.link.world ≡ Some before
  pub is : w ≡ before ++ more
  pub frames : Repeats frame most (sent more)

-- calls of the link that sent this frame alone, at most so often
pub record Passes (frame : List ℕ) (most : ℕ) (old new : View) : Type 0 where
  pub reads : ReadsOnly old new
  pub disk_faults : new.faults ≡ old.faults
  pub leaves : LeavesOnly old new (Resending frame most old)
  pub link_faults : old.link.faults ≤ new.link.faults
  pub events : World
  pub grows : GrowsBy old.link.world new.link.world events
  pub frames : Repeats frame most (sent events)

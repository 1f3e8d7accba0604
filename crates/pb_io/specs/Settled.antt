-- What a crash may leave while a disk is changed and synced.
use Rattle.std.specs.Prelude.{◌≡◌, ◌⊎◌, ℕ, ◌≤◌, List, length, Some}
use Rattle.std.specs.Option.{option_map}
use Rattle.pb_base.specs.World.{World}
use Rattle.pb_io.specs.Crash.{overlaid, Torn, AriseBy}
use Rattle.pb_io.specs.View.{View, LeavesOnly}

-- nothing is pending: a crash leaves the file as it reads
abbrev pub IsSettled : View → Type 0
IsSettled disk = (c : List ℕ) → disk.image c → disk.file ≡ Some c

-- the file that reads is this function of the one that read
abbrev pub IsMapped : (List ℕ → List ℕ) → View → View → Type 0
IsMapped change old new = new.file ≡ option_map change old.file

-- the same world, and a file that a crash might have left before, after a step
abbrev pub LeftBy : (List ℕ → List ℕ → Type 0) → View → World → List ℕ → Type 0
LeftBy step old w c = (old.link.world ≡ Some w) × ((d : List ℕ) × old.image d × step d c)

-- At any moment from old to new a crash leaves the world of old, and a file that it might have left there, after a step.
abbrev pub Leaves : (List ℕ → List ℕ → Type 0) → View → View → Type 0
Leaves step old new = LeavesOnly old new (LeftBy step old)

-- Disk calls of which a crash leaves, at any moment and now, what it might have left before, after a step. Failed calls
-- are among them.
pub record Runs (step : List ℕ → List ℕ → Type 0) (old new : View) : Type 0 where
  pub images : AriseBy step old.image new.image
  pub leaves : Leaves step old new
  pub link : new.link ≡ old.link
  pub later : old.faults ≤ new.faults

-- the first bytes are torn and nothing of the second ones is there, or the first are whole and the second torn
abbrev pub TornInOrder : ℕ → List ℕ → ℕ → ℕ → List ℕ → List ℕ → Type 0
TornInOrder first_at first second_at n old new =
    Torn first_at (length first) old new ⊎ Torn second_at n (overlaid old first_at first) new

-- the same world, and the file as it reads with the first bytes whole and the second ones torn
abbrev pub SecondTorn : ℕ → List ℕ → ℕ → ℕ → View → World → List ℕ → Type 0
SecondTorn first_at first second_at n old w c =
    (old.link.world ≡ Some w) × ((f : List ℕ) × (old.file ≡ Some f) × Torn second_at n (overlaid f first_at first) c)

-- the first bytes torn and nothing of the second ones, or the second ones torn
abbrev pub InOrder : ℕ → List ℕ → ℕ → ℕ → View → World → List ℕ → Type 0
InOrder first_at first second_at n old w c =
    LeftBy (Torn first_at (length first)) old w c ⊎ SecondTorn first_at first second_at n old w c

-- Two writes, the first one settled before the second. A crash leaves this order at any moment, and now.
pub record RunsInOrder (first_at : ℕ) (first : List ℕ) (second_at n : ℕ) (old new : View) : Type 0 where
  pub images : AriseBy (TornInOrder first_at first second_at n) old.image new.image
  pub leaves : LeavesOnly old new (InOrder first_at first second_at n old)
  pub link : new.link ≡ old.link
  pub later : old.faults ≤ new.faults

-- What a write or a cut does to a file, and what a crash may leave of it before the next sync.
use Rattle.std.specs.Prelude.{◌≡◌, ℕ, ◌+◌, ◌^◌, ◌≤◌, List, ◌++◌, length, take, drop, Option, Some}

-- the greatest length of a file in bytes
abbrev pub max_file_len : ℕ
max_file_len = 2 ^ 62

-- the file with these bytes at this place; what came after them stays
abbrev pub overlaid : List ℕ → ℕ → List ℕ → List ℕ
overlaid file at bytes = take at file ++ (bytes ++ drop (at + length bytes) file)

-- the file with these bytes, and then with second ones
abbrev pub overlaid_twice : ℕ → List ℕ → ℕ → List ℕ → List ℕ → List ℕ
overlaid_twice first_at first second_at second file = overlaid (overlaid file first_at first) second_at second

-- After a write of n bytes that may have stopped anywhere: any bytes in its range, up to any length within it, and the
-- same bytes before and after it.
pub record Torn (at n : ℕ) (old new : List ℕ) : Type 0 where
  pub before : take at new ≡ take at old
  pub after : drop (at + n) new ≡ drop (at + n) old
  pub no_shorter : length old ≤ length new

-- After a cut to this length that may have stopped anywhere: the same bytes before it, any length between, and any
-- bytes where it was to end.
pub record Shortened (len : ℕ) (old new : List ℕ) : Type 0 where
  pub before : take len new ≡ take len old
  pub no_longer : length new ≤ length old

-- each file of the new ones is one of the old after a step
abbrev pub AriseBy : (List ℕ → List ℕ → Type 0) → (List ℕ → Type 0) → (List ℕ → Type 0) → Type 0
AriseBy step old new = (c : List ℕ) → new c → (d : List ℕ) × old d × step d c

-- each file of the new ones is one of the old
abbrev pub Within : (List ℕ → Type 0) → (List ℕ → Type 0) → Type 0
Within old new = (c : List ℕ) → new c → old c

-- A known file makes a step, and stays known: the new one is known where the old one is, and the old one where the new
-- one is.
pub record Changes (step : List ℕ → List ℕ → Type 0) (old new : Option (List ℕ)) : Type 0 where
  pub on : (f : List ℕ) → old ≡ Some f → (g : List ℕ) × (new ≡ Some g) × step f g
  pub back : (g : List ℕ) → new ≡ Some g → (f : List ℕ) × (old ≡ Some f) × step f g

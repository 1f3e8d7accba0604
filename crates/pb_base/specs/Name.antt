-- Names: 1 to 64 bytes.
use Rattle.std.specs.Prelude.{◌≡◌, ℕ, ◌-◌, ◌≤◌, List, ◌++◌, length, take, replicate}

-- the most bytes that a name has
abbrev pub name_max : ℕ
name_max = 64

abbrev pub IsName : List ℕ → Type 0
IsName bytes = (1 ≤ length bytes) × (length bytes ≤ name_max)

-- the bytes, and zeros up to the greatest length
abbrev pub padded : List ℕ → List ℕ
padded bytes = bytes ++ replicate (name_max - length bytes) 0

-- how a name is kept: in an array of the greatest length, with zeros after the name
pub record IsPadded (array : List ℕ) (len : ℕ) : Type 0 where
  pub name : IsName (take len array)
  pub long : length (take len array) ≡ len
  pub zeros : padded (take len array) ≡ array

-- The words of a line: what stands before a byte that ends a word.
use Rattle.std.specs.Prelude.{◌≡◌, ◌⊎◌, ℕ, ◌<◌, ◌≤◌, List, length, get_or}

-- none of the bytes is this one
abbrev pub Lacks : ℕ → List ℕ → Type 0
Lacks byte bytes = (k : ℕ) → k < length bytes → get_or bytes k 0 ≡ byte → ⊥

-- a byte of a name in a text: a letter of ASCII, a digit, an underscore or a dash
abbrev pub IsNameByte : ℕ → Type 0
IsNameByte byte =
    ((65 ≤ byte) × (byte ≤ 90)) ⊎ (((97 ≤ byte) × (byte ≤ 122))
    ⊎ (((48 ≤ byte) × (byte ≤ 57)) ⊎ ((byte ≡ 95) ⊎ (byte ≡ 45))))

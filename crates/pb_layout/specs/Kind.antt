-- The kinds of key that messages are made of: which values each has, its bytes, and what may stand behind it.
use Rattle.std.specs.Prelude.{◌≡◌, ℕ, ◌+◌, ◌*◌, ◌^◌, ◌<◌, ◌≤◌, List, [], ◌∷◌, ◌++◌, length}
use Rattle.std.specs.List.{All, AllByRecursion, flat_map}
use Rattle.std.specs.Int.{w16, w32, to_be_bytes}
use Rattle.std.specs.Int.RustNames.{FitsSigned}
use Rattle.pb_base.specs.declared.nsec.Nsec.{Nsec}
use Rattle.pb_base.specs.Time.{time_bytes}

pub data Kind : Type 0 where
  -- one byte
  Byte : Kind
  -- one byte, from the first number to the second
  Between : ℕ → ℕ → Kind
  -- two bytes, a number
  Half : Kind
  -- four bytes, a number
  Word : Kind
  -- two bytes: a number of four bits, and then one of twelve
  Split : Kind
  -- eight bytes: seconds and nanoseconds, both signed
  Time : Kind
  -- a text, and the zero byte that ends it
  Text : Kind
  -- all of the bytes that are left
  Rest : Kind
  -- the next bytes, as many as there are, but not more than this
  AtMost : ℕ → Kind
  -- numbers of two bytes, none of them 0, and then the 0 that ends them; they are kept as their bytes
  Numbers : Kind
  -- settings up to the end, each a number, a length and as many bytes; they are kept as their bytes
  Settings : Kind

abbrev pub Value : Kind → Type 0
Value Byte = ℕ
Value (Between low high) = ℕ
Value Half = ℕ
Value Word = ℕ
Value Split = ℕ × ℕ
Value Time = Nsec
Value Text = List ℕ
Value Rest = List ℕ
Value (AtMost most) = List ℕ
Value Numbers = List ℕ
Value Settings = List ℕ

-- the bytes of a value
abbrev pub spell : (k : Kind) → Value k → List ℕ
spell Byte n = n ∷ []
spell (Between low high) n = n ∷ []
spell Half n = to_be_bytes w16 n
spell Word n = to_be_bytes w32 n
spell Split parts = to_be_bytes w16 (parts.0 * 4096 + parts.1)
spell Time time = time_bytes time
spell Text text = text ++ 0 ∷ []
spell Rest bytes = bytes
spell (AtMost most) bytes = bytes
spell Numbers bytes = bytes ++ 0 ∷ 0 ∷ []
spell Settings bytes = bytes

-- Its numbers lie in the ranges of their types.
abbrev pub Fits : (k : Kind) → Value k → Type 0
Fits Byte n = n < 2 ^ 8
Fits (Between low high) n = n < 2 ^ 8
Fits Half n = n < 2 ^ 16
Fits Word n = n < 2 ^ 32
Fits Split parts = (parts.0 < 2 ^ 8) × (parts.1 < 2 ^ 16)
Fits Time time = FitsSigned w32 time.sec × FitsSigned w32 time.nano
Fits Text text = Unit {0}
Fits Rest bytes = Unit {0}
Fits (AtMost most) bytes = Unit {0}
Fits Numbers bytes = Unit {0}
Fits Settings bytes = Unit {0}

-- bytes that are numbers of two bytes, none of them 0
abbrev pub AreNumbers : List ℕ → Type 0
AreNumbers [] = Unit {0}
AreNumbers (high ∷ []) = ⊥
AreNumbers (high ∷ low ∷ bytes) = (0 < high + low) × AreNumbers bytes

pub record Setting : Type 0 where
  pub number : ℕ
  pub content : List ℕ

abbrev pub setting_bytes : Setting → List ℕ
setting_bytes s = to_be_bytes w16 s.number ++ (to_be_bytes w16 (length s.content) ++ s.content)

pub record IsSetting (s : Setting) : Type 0 where
  pub number : s.number < 2 ^ 16
  pub content : length s.content < 2 ^ 16

-- bytes that are whole settings
abbrev pub AreSettings : List ℕ → Type 0
AreSettings bytes = (settings : List Setting) × (bytes ≡ flat_map setting_bytes settings) × AllByRecursion IsSetting settings

-- what is asked of a value beside the ranges of its numbers
abbrev pub Obeys : (k : Kind) → Value k → Type 0
Obeys Byte n = Unit {0}
Obeys (Between low high) n = (low ≤ n) × (n ≤ high)
Obeys Half n = Unit {0}
Obeys Word n = Unit {0}
Obeys Split parts = (parts.0 < 16) × (parts.1 < 4096)
Obeys Time time = Unit {0}
Obeys Text text = All (λ byte. 0 < byte) text
Obeys Rest bytes = Unit {0}
Obeys (AtMost most) bytes = length bytes ≤ most
Obeys Numbers bytes = AreNumbers bytes
Obeys Settings bytes = AreSettings bytes

-- These bytes may stand behind the value. Behind what runs to the end there are none.
abbrev pub MayFollow : (k : Kind) → Value k → List ℕ → Type 0
MayFollow Byte n rest = Unit {0}
MayFollow (Between low high) n rest = Unit {0}
MayFollow Half n rest = Unit {0}
MayFollow Word n rest = Unit {0}
MayFollow Split parts rest = Unit {0}
MayFollow Time time rest = Unit {0}
MayFollow Text text rest = Unit {0}
MayFollow Rest bytes rest = rest ≡ []
MayFollow (AtMost most) bytes rest = length bytes < most → rest ≡ []
MayFollow Numbers bytes rest = Unit {0}
MayFollow Settings bytes rest = rest ≡ []

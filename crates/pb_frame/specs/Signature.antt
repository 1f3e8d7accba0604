-- The signature of a list of bytes, a number below 65,536, as PakBus has it.
use Rattle.std.specs.Prelude.{ℕ, ◌+◌, ◌-◌, ◌*◌, ◌/◌, ◌%◌, List, [], ◌∷◌, reverse, nat_le, if◌then◌else◌}

-- what every frame's signature starts with
abbrev pub start : ℕ
start = 0xAAAA

-- the signature shifted left within nine bits, plus one where the ninth is set
abbrev pub shifted : ℕ → ℕ
shifted s = let doubled = (s * 2) % 512 in (if nat_le 256 doubled then doubled + 1 else doubled)

-- The signature after one more byte: the old low byte goes up, and the new low byte is a sum in one byte.
abbrev pub step : ℕ → ℕ → ℕ
step s byte = 256 * (s % 256) + (shifted s + s / 256 + byte) % 256

-- the signature of a list that is given from its end
abbrev pub sig_back : List ℕ → ℕ → ℕ
sig_back [] s = s
sig_back (byte ∷ before) s = step (sig_back before s) byte

-- the signature of a list of bytes over a start: that of the empty list is the start, and each byte at the end is a step
unfoldable pub sig : List ℕ → ℕ → ℕ
sig bytes s = sig_back (reverse bytes) s

-- The nullifier: the two bytes that bring a signature to 0. Each is a difference in one byte.
abbrev pub null : ℕ → List ℕ
null s = (1024 - (shifted s + s / 256)) % 256 ∷ (256 - s % 256) % 256 ∷ []

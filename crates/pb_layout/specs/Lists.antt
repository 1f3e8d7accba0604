-- The numbers and the settings that bytes are.
use Rattle.std.specs.Prelude.{◌≡◌, ℕ, zero, suc, ◌+◌, ◌*◌, List, [], ◌∷◌, length, take, drop, nat_lt, if◌then◌else◌}
use Rattle.std.specs.Int.{w16, from_be_bytes}
use Rattle.pb_layout.specs.Kind.{Setting}

-- numbers of two bytes each, the higher one first; what is too short for one at the end is none
abbrev pub numbers_of : List ℕ → List ℕ
numbers_of [] = []
numbers_of (high ∷ []) = []
numbers_of (high ∷ low ∷ rest) = from_be_bytes w16 (high ∷ low ∷ []) ∷ numbers_of rest

-- how many bytes a setting has, the first that these bytes begin with
abbrev pub setting_len : List ℕ → ℕ
setting_len bytes = 4 + from_be_bytes w16 (take 2 (drop 2 bytes))

-- the first setting: its number, and the bytes after its length
abbrev pub first_setting : List ℕ → Setting
first_setting bytes =
    record {
      number = from_be_bytes w16 (take 2 bytes);
      content = take (from_be_bytes w16 (take 2 (drop 2 bytes))) (drop 4 bytes);
    }

-- settings one after another, at most so many; what is too short for a number and a length at the end is none
abbrev pub settings_within : ℕ → List ℕ → List Setting
settings_within zero bytes = []
settings_within (suc most) bytes =
    if nat_lt (length bytes) 4 then [] else first_setting bytes ∷ settings_within most (drop (setting_len bytes) bytes)

abbrev pub settings_of : List ℕ → List Setting
settings_of bytes = settings_within (length bytes) bytes

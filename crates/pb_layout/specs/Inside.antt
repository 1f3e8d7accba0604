-- How far lists go: between the readers of keys and the loops that they call.
use Rattle.std.specs.Prelude.{ℕ, ◌+◌, List, [], ◌∷◌, ◌==◌, if◌then◌else◌}
use Rattle.pb_layout.specs.declared.items.Setting as code
use Rattle.pb_layout.specs.Kind.{Setting}

-- the bytes of the numbers before the first 0, or before what is too short for one
abbrev pub numbers_len : List ℕ → ℕ
numbers_len [] = 0
numbers_len (high ∷ []) = 0
numbers_len (high ∷ low ∷ rest) = if high + low == 0 then 0 else 2 + numbers_len rest

-- what is seen of a setting
abbrev pub setting_view : code.Setting → Setting
setting_view s = record { number = s.number; content = s.bytes.now }

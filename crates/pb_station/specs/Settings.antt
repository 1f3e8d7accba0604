-- The settings of a station: their values, and what it means to set them.
use Rattle.std.specs.Prelude.{ℕ, zero, suc, ◌==◌, ◌&&◌, nat_le, List, [], ◌∷◌, length, take, drop, Option, Some, None, codes, if◌then◌else◌}
use Rattle.std.specs.List.{flat_map}
use Rattle.std.specs.Int.{w16, w32, to_be_bytes, from_be_bytes}
use Rattle.pb_layout.specs.Kind.{Setting, setting_bytes}
use Rattle.pb_station.specs.State.{DeviceState}
use Rattle.pb_station.specs.Files.{name_max}

-- the version of a station, as its settings and its statistics give it
abbrev pub version : List ℕ
version = codes "sim.1"

abbrev pub setting : ℕ → List ℕ → Setting
setting number content = record { number = number; content = content }

-- all settings: the version, the serial number, which is the address, the name, the address, and the security code
abbrev pub settings_of : DeviceState → List Setting
settings_of device =
    setting 1 version
    ∷ setting 2 (to_be_bytes w32 device.address)
    ∷ setting 3 device.name
    ∷ setting 4 (to_be_bytes w16 device.address)
    ∷ setting 5 (to_be_bytes w16 device.code)
    ∷ []

-- a setting that is given where its number is at least this
abbrev pub given : ℕ → Setting → List ℕ
given first s = if nat_le first s.number then setting_bytes s else []

abbrev pub settings_from : ℕ → DeviceState → List ℕ
settings_from first device = flat_map (given first) (settings_of device)

-- ---- setting them

-- The settings that bytes spell, at most so many: each a number, the length of its content, and the content.
abbrev pub settings_in : (most : ℕ) → List ℕ → List Setting
settings_in zero bytes = []
settings_in (suc most) (a ∷ b ∷ c ∷ d ∷ rest) =
    let len = from_be_bytes w16 (c ∷ d ∷ []) in
    setting (from_be_bytes w16 (a ∷ b ∷ [])) (take len rest) ∷ settings_in most (drop len rest)
settings_in (suc most) bytes = []

-- The name and the security code can be set: a text of at most so many bytes, and a number of two bytes.
abbrev pub set_one : DeviceState → Setting → Option DeviceState
set_one device s =
    if s.number == 3 && nat_le (length s.content) name_max then Some (record device { name = s.content })
    else if s.number == 5 && length s.content == 2 then Some (record device { code = from_be_bytes w16 s.content })
    else None

-- an outcome and a number, and what is there then
pub record WereSet : Type 0 where
  pub outcome : ℕ
  pub number : ℕ
  pub device : DeviceState

-- In their order, up to the first that can't be set; those before it are set.
abbrev pub set_all : DeviceState → List Setting → WereSet
set_all device [] = record { outcome = 0; number = 0; device = device }
set_all device (s ∷ settings) =
    elim (set_one device s) as (λ set. WereSet) [
      | Some after ↦ set_all after settings
      | None ↦ record { outcome = 1; number = s.number; device = device }
    ]

-- each setting has bytes, so there are at most as many
abbrev pub set_from : DeviceState → List ℕ → WereSet
set_from device bytes = set_all device (settings_in (length bytes) bytes)

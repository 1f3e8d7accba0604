-- What the code's own steps do.
use Rattle.std.specs.Prelude.{◌≡◌, ℕ, Bool, true, false, suc, List, ◌∷◌, ◌++◌, drop, Option, Some, None}
use Rattle.pb_base.specs.declared.nsec.Nsec.{Nsec}
use Rattle.pb_base.specs.Time.{time_later}
use Rattle.pb_station.specs.declared.settings.SetResult.{SetResult}
use Rattle.pb_station.specs.State.{File, DeviceState, KeptTable}
use Rattle.pb_station.specs.Clock.{has_sum}
use Rattle.pb_station.specs.Files.{Downloaded}
use Rattle.pb_layout.specs.Kind.{Setting}
use Rattle.pb_station.specs.Settings.{WereSet, settings_in}

-- what changed became the value, where there is one, and else stayed
abbrev pub Became : {A : Type 0} → Option A → A → A → Bool → Type 0
Became (Some x) old new done = (done ≡ true) × (new ≡ x)
Became None old new done = (done ≡ false) × (new ≡ old)

abbrev pub Becomes : Downloaded → List File → ℕ → Type 0
Becomes d new resp = (new ≡ d.files) × (resp ≡ d.resp)

-- ---- the device

abbrev pub WasAdjusted : DeviceState → Nsec → DeviceState → Option Nsec → Type 0
WasAdjusted old adjust new (Some before) =
    (has_sum old.clock adjust ≡ true) × (before ≡ old.clock)
    × (new ≡ record old { clock = time_later old.clock adjust 1 })
WasAdjusted old adjust new None = (has_sum old.clock adjust ≡ false) × (new ≡ old)

abbrev pub DeviceBecomes : Downloaded → DeviceState → DeviceState → ℕ → Type 0
DeviceBecomes d old new resp = (new ≡ record old { files = d.files }) × (resp ≡ d.resp)

abbrev pub WereAllSet : WereSet → DeviceState → SetResult → Type 0
WereAllSet s new o = (new ≡ s.device) × (o.outcome ≡ s.outcome) × (o.number ≡ s.number)

-- the bytes begin with this setting, and the rest follows it
abbrev pub IsFirst : List ℕ → Setting → List ℕ → Type 0
IsFirst bytes s rest = (most : ℕ) → settings_in (suc most) bytes ≡ s ∷ settings_in most rest

-- ---- tables

-- all but the records stays
pub record KeepsTable (old new : KeptTable) : Type 0 where
  pub signature : new.signature ≡ old.signature
  pub layout : new.layout ≡ old.layout
  pub record_len : new.ring.record_len ≡ old.ring.record_len
  pub capacity : new.ring.capacity ≡ old.ring.capacity

-- ---- packets

-- the words are at the front, and behind them all is as it was
abbrev pub IsHeaded : List ℕ → List ℕ → List ℕ → Type 0
IsHeaded words old new = new ≡ words ++ drop 8 old

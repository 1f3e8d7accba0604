-- Where a message breaks off: the keys before that place read, and what stands there is no value of the next key.
use Rattle.std.specs.Prelude.{◌≡◌, ◌⊎◌, ℕ, ◌+◌, ◌<◌, ◌≤◌, List, [], ◌∷◌, ◌++◌, length}
use Rattle.std.specs.List.{flat_map, AllByRecursion}
use Rattle.pb_base.specs.declared.message.MessageFault.TheVariants.{Malformed}
use Rattle.pb_layout.specs.Kind.{Kind, Numbers, Settings, Value, spell, Fits, Obeys, MayFollow, AreNumbers, Setting, setting_bytes, IsSetting}
use Rattle.pb_layout.specs.Layout.{MessageLayout, Done, Stop, Key}
use Rattle.pb_layout.specs.Lists.{setting_len}

-- no value of the key stands at the front of the bytes
abbrev pub HasNone : Kind → List ℕ → Type 0
HasNone k bytes = (v : Value k) (rest : List ℕ) → bytes ≡ spell k v ++ rest → Fits k v → Obeys k v → MayFollow k v rest → ⊥

-- whole numbers, none of them 0, go so far, and then there are too few bytes for another
pub record NumbersBreak (n : ℕ) (bytes : List ℕ) : Type 0 where
  pub numbers : List ℕ
  pub rest : List ℕ
  pub parts : bytes ≡ numbers ++ rest
  pub are : AreNumbers numbers
  pub place : n ≡ length numbers
  pub short : length rest < 2

-- a setting breaks off in its number, its length or its bytes, so far from its first byte
abbrev pub SettingBreaks : ℕ → List ℕ → Type 0
SettingBreaks n bytes =
    ((n ≡ 0) × (length bytes < 2)) ⊎ ((n ≡ 2) × (2 ≤ length bytes) × (length bytes < 4))
    ⊎ ((n ≡ 4) × (4 ≤ length bytes) × (length bytes < setting_len bytes))

-- whole settings go so far, and the next one breaks off
pub record SettingsBreak (n : ℕ) (bytes : List ℕ) : Type 0 where
  pub settings : List Setting
  pub rest : List ℕ
  pub parts : bytes ≡ flat_map setting_bytes settings ++ rest
  pub are : AllByRecursion IsSetting settings
  pub within : ℕ
  pub place : n ≡ length (flat_map setting_bytes settings) + within
  pub breaks : SettingBreaks within rest

-- Each number of a list and each part of a setting is a field of its own; any other key breaks off at its first byte.
abbrev pub BreaksWithin : Kind → ℕ → List ℕ → Type 0
BreaksWithin Numbers n bytes = NumbersBreak n bytes
BreaksWithin Settings n bytes = SettingsBreak n bytes
BreaksWithin k n bytes = n ≡ 0

-- the key breaks off at the place; its bytes begin at the one before
pub record KeyBreaks (k : Kind) (at : ℕ) (bytes : List ℕ) (place : ℕ) : Type 0 where
  pub none : HasNone k bytes
  pub within : ℕ
  pub breaks : BreaksWithin k within bytes
  pub is : place ≡ at + within

-- the value of a key that reads, and what follows it
pub record Before (k : Kind) (bytes : List ℕ) : Type 0 where
  pub value : Value k
  pub rest : List ℕ
  pub parts : bytes ≡ spell k value ++ rest
  pub fits : Fits k value
  pub obeys : Obeys k value
  pub follows : MayFollow k value rest

-- A message of this layout, whose bytes from the place `at` on these are, breaks off at the other place.
abbrev pub BreaksAt : {X : Type 0} → MessageLayout X → (at : ℕ) → List ℕ → (place : ℕ) → Type 0
BreaksAt (Done x) at bytes place = ⊥
BreaksAt (Stop fault) at bytes place = fault ≡ Malformed place
BreaksAt (Key k next) at bytes place =
    KeyBreaks k at bytes place ⊎ ((b : Before k bytes) × BreaksAt (next b.value) (at + length (spell k b.value)) b.rest place)

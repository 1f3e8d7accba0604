-- A ring, and the list of all records that were ever stored in it.
use Rattle.std.specs.Prelude.{◌≡◌, ℕ, ◌+◌, ◌-◌, ◌^◌, ◌<◌, ◌≤◌, List, [], ◌∷◌, ◌++◌, length, take, drop, slice_get, Some, Result, Ok, Err}
use Rattle.std.specs.List.{AllByRecursion, flat_map}
use Rattle.std.specs.Int.{w32}
use Rattle.std.specs.Int.RustNames.{FitsSigned}
use Rattle.pb_base.specs.declared.numbers.RecNo.{RecNo}
use Rattle.pb_base.specs.World.{StoredRecord}
use Rattle.pb_base.specs.Record.{content}
use Rattle.pb_ring.specs.declared.ring.Spent.{Spent}

-- What a ring keeps: the number of a record's field bytes, the most records that it holds, the number that the next record
-- gets, and the contents that it holds, one after another.
pub record Kept : Type 0 where
  pub record_len : ℕ
  pub capacity : ℕ
  pub next : ℕ
  pub bytes : List ℕ

-- the lowest number that is held; the next one where none is held
abbrev pub oldest_of : Kept → ℕ
oldest_of ring = ring.next - ring.capacity

abbrev pub IsHeld : Kept → ℕ → Type 0
IsHeld ring number = (oldest_of ring ≤ number) × (number < ring.next)

-- It has so many field bytes, and its time has room in the bytes of a content.
abbrev pub IsRecord : ℕ → StoredRecord → Type 0
IsRecord len r =
    (length r.bytes ≡ len) × FitsSigned w32 r.time.sec × FitsSigned w32 r.time.nano

-- all record numbers are used
abbrev pub last_next : ℕ
last_next = 2 ^ 32 - 1

-- These are all records that were stored, from number 0 on. The ring holds the contents of the newest, as many as its
-- capacity.
pub record StandsFor (ring : Kept) (all : List StoredRecord) : Type 0 where
  pub next : ring.next ≡ length all
  pub few : length all ≤ last_next
  pub each : AllByRecursion (IsRecord ring.record_len) all
  pub bytes : ring.bytes ≡ flat_map content (drop (oldest_of ring) all)

-- A record that is stored gets the next number, unless all numbers are used. Then nothing changes.
abbrev pub Stores : List StoredRecord → StoredRecord → Kept → Kept → Result RecNo Spent → Type 0
Stores all r old new (Ok number) =
    (number.0 ≡ length all) × (length all < last_next) × StandsFor new (all ++ r ∷ [])
Stores all r old new (Err spent) = (length all ≡ last_next) × (new ≡ old)

-- the bytes are those of the record of this number, from a place of its content on
pub record CopiesPart (all : List StoredRecord) (number offset len : ℕ) (bytes : List ℕ) : Type 0 where
  pub stored : StoredRecord
  pub is : slice_get all number ≡ Some stored
  pub same : bytes ≡ take len (drop offset (content stored))

-- the part lies in a content
abbrev pub IsWithin : Kept → ℕ → ℕ → Type 0
IsWithin ring offset len = offset + len ≤ 8 + ring.record_len

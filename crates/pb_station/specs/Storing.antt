-- What it means that a station stores a record.
use Rattle.std.specs.Prelude.{◌≡◌, ℕ, zero, suc, ◌<◌, List, ◌∷◌, [], ◌++◌, length, slice_get, slice_set, Option, Some, None, Result, Ok, Err}
use Rattle.pb_base.specs.declared.numbers.RecNo.{RecNo}
use Rattle.pb_base.specs.World.{StoredRecord}
use Rattle.pb_ring.specs.declared.ring.Spent.{Spent}
use Rattle.pb_ring.specs.Ring.{last_next}
use Rattle.pb_station.specs.State.{KeptTable, KeptStation, Table, State, StandsFor}

-- the table of this number is there, and a record of it has so many field bytes
abbrev pub HasTable : List KeptTable → (number len : ℕ) → Type 0
HasTable tables zero len = ⊥
HasTable tables (suc n) len = (table : KeptTable) × (slice_get tables n ≡ Some table) × (len ≡ table.layout.record_len)

-- a table with one record more
abbrev pub with_record : StoredRecord → Table → Table
with_record r table = record table { stored = table.stored ++ r ∷ [] }

-- The record gets the table's next number, unless all numbers are used; then nothing changes.
abbrev pub TableStores : State → (place : ℕ) → Option Table → StoredRecord → (old new : KeptStation) → Result RecNo Spent
    → Type 0
TableStores state place None r old new result = ⊥
TableStores state place (Some table) r old new (Ok number) =
    (number.0 ≡ length table.stored) × (length table.stored < last_next)
    × StandsFor new (record state { tables = slice_set state.tables place (with_record r table) })
TableStores state place (Some table) r old new (Err spent) = (length table.stored ≡ last_next) × (new ≡ old)

-- tables are numbered from 1
abbrev pub StationStores : State → (number : ℕ) → StoredRecord → (old new : KeptStation) → Result RecNo Spent → Type 0
StationStores state zero r old new result = ⊥
StationStores state (suc place) r old new result = TableStores state place (slice_get state.tables place) r old new result

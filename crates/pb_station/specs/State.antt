-- What a station has: its own values, and its tables with all records that were ever stored in each.
use Rattle.std.specs.Prelude.{◌≡◌, ℕ, ◌-◌, ◌≤◌, List, [], ◌∷◌, length}
use Rattle.pb_base.specs.declared.nsec.Nsec.{Nsec}
use Rattle.pb_base.specs.declared.layout.Layout.{Layout}
use Rattle.pb_base.specs.Time.{IsNormal}
use Rattle.pb_base.specs.World.{StoredRecord}
use Rattle.pb_tdf.specs.Definition.{record_bytes_max}
use Rattle.pb_bmp5.specs.TrueReply.{Stage}
use Rattle.pb_ring.specs.Ring as ring

-- a file that was downloaded to the station
pub record File : Type 0 where
  pub name : List ℕ
  pub bytes : List ℕ

-- All but the tables: the address, the security code, the bytes of the table definition file, the time, the station's name,
-- and the downloaded files in the order in which they came.
pub record DeviceState : Type 0 where
  pub address : ℕ
  pub code : ℕ
  pub definitions : List ℕ
  pub clock : Nsec
  pub name : List ℕ
  pub files : List File

-- A table: the signature and the layout of its definition, the most records that it holds, and all records that were
-- stored in it, from number 0 on.
pub record Table : Type 0 where
  pub signature : ℕ
  pub layout : Layout
  pub capacity : ℕ
  pub stored : List StoredRecord

pub record State : Type 0 where
  pub device : DeviceState
  pub tables : List Table

-- the number that the table's next record gets, and the lowest that it holds
abbrev pub stage_of : Table → Stage
stage_of table =
    let next = length table.stored in
    record { next = next; oldest = next - table.capacity }

-- ---- what a station keeps of it

pub record KeptTable : Type 0 where
  pub signature : ℕ
  pub layout : Layout
  pub ring : ring.Kept

pub record KeptStation : Type 0 where
  pub device : DeviceState
  pub tables : List KeptTable

-- The ring holds the newest records of all that were stored in the table, and the table is one
-- of a definition: its interval is a time, and its records have at most so many bytes.
pub record TableStandsFor (kept : KeptTable) (table : Table) : Type 0 where
  pub signature : kept.signature ≡ table.signature
  pub layout : kept.layout ≡ table.layout
  pub record_len : kept.ring.record_len ≡ table.layout.record_len
  pub capacity : kept.ring.capacity ≡ table.capacity
  pub interval : IsNormal table.layout.interval
  pub short : table.layout.record_len ≤ record_bytes_max
  pub stored : ring.StandsFor kept.ring table.stored

-- each for the one of its number, and as many
abbrev pub TablesStandFor : List KeptTable → List Table → Type 0
TablesStandFor [] [] = Unit {0}
TablesStandFor [] (table ∷ tables) = ⊥
TablesStandFor (kept ∷ more) [] = ⊥
TablesStandFor (kept ∷ more) (table ∷ tables) = TableStandsFor kept table × TablesStandFor more tables

pub record StandsFor (kept : KeptStation) (state : State) : Type 0 where
  pub device : kept.device ≡ state.device
  pub tables : TablesStandFor kept.tables state.tables

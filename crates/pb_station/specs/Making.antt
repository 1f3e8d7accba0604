-- Which stations can be made of a table definition file, and what a new one has.
use Rattle.std.specs.Prelude.{◌≡◌, ℕ, ◌+◌, ◌*◌, pos, ◌==◌, ◌||◌, nat_lt, List, [], ◌∷◌, map, Option, Some, None, Ok, Err, if◌then◌else◌}
use Rattle.pb_base.specs.declared.layout.Layout.{Layout}
use Rattle.pb_base.specs.declared.numbers.TableNo.{TableNo}
use Rattle.pb_base.specs.Record.{content_len}
use Rattle.pb_tdf.specs.Definition.{Definition, FileBytes}
use Rattle.pb_tdf.specs.Refusal.{FileFault}
use Rattle.pb_tdf.specs.View.{TableView, view_of}
use Rattle.pb_station.specs.declared.fault.StationFault.{StationFault}
use Rattle.pb_station.specs.declared.fault.StationFault.TheVariants.{Tdf, Uncollectable, BadSize, Memory}
use Rattle.pb_station.specs.State.{DeviceState, Table, State}

-- the most bytes of the contents that all rings of a station hold
abbrev pub ring_bytes_max : ℕ
ring_bytes_max = 67108864

abbrev pub table_number : ℕ → TableNo
table_number n = record { 0 = n }

abbrev pub ring_bytes : TableView → Layout → ℕ
ring_bytes view layout = view.size * content_len layout

-- The first table, from this number on, of which no ring can be made: it has a text of any length, holds no records, or
-- passes the limit of all rings' bytes, of which those before use so many.
abbrev pub first_fault : (number used : ℕ) → List TableView → Option StationFault
first_fault number used [] = None
first_fault number used (view ∷ views) =
    elim view.layout as (λ layout. Option StationFault) [
      | Err no_layout ↦ Some (Uncollectable (table_number number))
      | Ok layout ↦
          let after = used + ring_bytes view layout in
          if (view.size == 0) || nat_lt ring_bytes_max after then Some (BadSize (table_number number))
          else first_fault (number + 1) after views
    ]

-- a table in which nothing was stored yet
pub record IsEmpty (view : TableView) (table : Table) : Type 0 where
  pub signature : table.signature ≡ view.signature
  pub layout : view.layout ≡ Ok table.layout
  pub capacity : table.capacity ≡ view.size
  pub stored : table.stored ≡ []

abbrev pub AreEmpty : List TableView → List Table → Type 0
AreEmpty [] [] = Unit {0}
AreEmpty [] (table ∷ tables) = ⊥
AreEmpty (view ∷ views) [] = ⊥
AreEmpty (view ∷ views) (table ∷ tables) = IsEmpty view table × AreEmpty views tables

-- its clock stands at 0, and it has no name and no downloaded files
abbrev pub new_device : (address code : ℕ) → List ℕ → DeviceState
new_device address code file = record {
  address = address;
  code = code;
  definitions = file;
  clock = record { sec = pos 0; nano = pos 0 };
  name = [];
  files = [];
}

-- a new station of these tables
pub record IsNew (address code : ℕ) (file : List ℕ) (state : State) : Type 0 where
  pub definitions : List Definition
  pub are : FileBytes definitions file
  pub sound : first_fault 1 0 (map view_of definitions) ≡ None
  pub device : state.device ≡ new_device address code file
  pub tables : AreEmpty (map view_of definitions) state.tables

-- the definitions can be read, and this is the first table of which no ring can be made
pub record HasTableFault (file : List ℕ) (fault : StationFault) : Type 0 where
  pub definitions : List Definition
  pub are : FileBytes definitions file
  pub first : first_fault 1 0 (map view_of definitions) ≡ Some fault

-- Why there is no station. Want of memory has no other cause.
abbrev pub IsRefused : List ℕ → StationFault → Type 0
IsRefused file (Tdf fault) = FileFault file fault
IsRefused file (Uncollectable table) = HasTableFault file (Uncollectable table)
IsRefused file (BadSize table) = HasTableFault file (BadSize table)
IsRefused file Memory = Unit {0}

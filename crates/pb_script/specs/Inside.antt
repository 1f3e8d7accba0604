-- Steps of the calls, which no promise names.
use Rattle.std.specs.Prelude.{◌≡◌, ◌≢◌, ◌⊎◌, ℕ, zero, suc, ◌^◌, ◌<◌, false, List, [], ◌∷◌, ◌++◌, map}
use Rattle.pb_station.specs.State.{KeptStation, Table, StandsFor}
use Rattle.pb_script.specs.declared.draft.Draft.TheInside.{Inside}
use Rattle.pb_script.specs.declared.table.ScriptTable.{ScriptTable}
use Rattle.pb_script.specs.declared.table.Station.{Station}
use Rattle.pb_script.specs.Script.{Script, IsAddress, CanDeclare, CanStore, with_table, with_store}
use Rattle.pb_script.specs.ScriptText.{table_line, store_line}
use Rattle.pb_script.specs.Station.{holding, filled, field_of, seconds, time_type}
use Rattle.pb_script.specs.declared.table.Shape.{Shape}
use Rattle.pb_tdf.specs.Definition.{word, field_bytes}
use Rattle.pb_base.specs.Time.{time_bytes}
use Rattle.std.specs.List.{flat_map}

-- what is seen of the fields of a draft
abbrev pub draft_view : Inside → Script
draft_view d = record {
  me = d.me;
  name = d.station.name;
  addr = d.station.addr;
  code = d.station.code;
  tables = d.tables.items;
  storing = d.storing;
}

-- the script of a station without tables
abbrev pub begun : ℕ → Station → Script
begun me s = record { me = me; name = s.name; addr = s.addr; code = s.code; tables = []; storing = false }

-- a station may have this address and this code
pub record IsStation (me at code : ℕ) : Type 0 where
  pub addr : IsAddress at
  pub not_me : at ≢ me
  pub small : code < 2 ^ 16

-- the next line declares this table
pub record Declares (old : Script) (text : List ℕ) (new : Script) (rest : List ℕ) : Type 0 where
  pub table : ScriptTable
  pub can : CanDeclare old table
  pub line : text ≡ table_line old.name table rest
  pub is : new ≡ with_table old table

-- the next line stores so many records in the table of this name
pub record Fills (old : Script) (text : List ℕ) (new : Script) (rest : List ℕ) : Type 0 where
  pub name : List ℕ
  pub place : ℕ
  pub n : ℕ
  pub can : CanStore old name place n
  pub line : text ≡ store_line old.name name n rest
  pub is : new ≡ with_store old place n

abbrev pub TakesLine : Script → List ℕ → Script → List ℕ → Type 0
TakesLine old text new rest = Declares old text new rest ⊎ Fills old text new rest

-- a line of neither kind comes next
pub record TakesNone (s : Script) (text : List ℕ) : Type 0 where
  pub no_table : (t : ScriptTable) (more : List ℕ) → CanDeclare s t → text ≡ table_line s.name t more → ⊥
  pub no_store : (name : List ℕ) (place n : ℕ) (more : List ℕ) → CanStore s name place n
      → text ≡ store_line s.name name n more → ⊥

-- ---- the station while its records are stored

-- the first tables are filled, the next one has so many records, and the others have none
abbrev pub filling : List ScriptTable → (done n : ℕ) → List Table
filling [] done n = []
filling (t ∷ tables) zero n = holding n t ∷ map (holding 0) tables
filling (t ∷ tables) (suc done) n = filled t ∷ filling tables done n

abbrev pub IsFilling : KeptStation → List ScriptTable → (done n : ℕ) → Type 0
IsFilling kept tables done n = StandsFor kept (record { device = kept.device; tables = filling tables done n })

-- ---- its table definition file

-- the bytes of a table after its name
abbrev pub after_name : Shape → List ℕ
after_name shape =
    0 ∷ (word shape.size ++ time_type
    ∷ (time_bytes (seconds 0) ++ (time_bytes (seconds shape.interval) ++ (flat_map field_bytes (field_of shape ∷ []) ++ 0 ∷ []))))

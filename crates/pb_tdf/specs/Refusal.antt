-- The first fault of bytes that aren't a table, or aren't a file.
use Rattle.std.specs.Prelude.{◌≡◌, ℕ, ◌<◌, ◌≤◌, ◌⊎◌, Bool, true, false, ◌==◌, List, [], ◌∷◌, ◌++◌, length, map, Result, Ok, Err}
use Rattle.std.specs.List.{AllByRecursion}
use Rattle.pb_base.specs.Fields.{Unread, unread, whole}
use Rattle.pb_tdf.specs.declared.fault.TdfFault.{TdfFault}
use Rattle.pb_tdf.specs.declared.fault.TdfFault.TheVariants.{BadVersion, Short, TooMany, Memory}
use Rattle.pb_tdf.specs.Definition.{Definition, IsTable, table_bytes, tables_bytes, version, table_bytes_max, file_bytes_max, tables_max}
use Rattle.pb_tdf.specs.Places.{table_limit, after_tables}
use Rattle.pb_tdf.specs.Order.{ComesTo, table_begins}
use Rattle.pb_tdf.specs.View.{TableView, view_of}

-- an item of the table that begins here is refused, and those before it were read
abbrev pub IsRefused : ℕ → Unread → TdfFault → Type 0
IsRefused limit u fault = ComesTo limit (table_begins u) (Err fault)

-- bytes follow a whole table
pub record IsFollowed (bytes : List ℕ) (fault : TdfFault) : Type 0 where
  pub table : Definition
  pub left : List ℕ
  pub is : IsTable table
  pub some : 0 < length left
  pub parts : bytes ≡ table_bytes table ++ left
  pub place : fault ≡ TooMany (length (table_bytes table))

-- the fault of bytes that aren't one table
abbrev pub TableFault : List ℕ → TdfFault → Type 0
TableFault bytes fault = IsRefused table_bytes_max (whole bytes) fault ⊎ IsFollowed bytes fault

-- after whole tables comes one that is refused
pub record IsRefusedAfter (bytes : List ℕ) (fault : TdfFault) : Type 0 where
  pub tables : List Definition
  pub left : List ℕ
  pub each : AllByRecursion IsTable tables
  pub count : length tables ≤ tables_max
  pub within : after_tables tables ≤ file_bytes_max
  pub some : 0 < length left
  pub parts : bytes ≡ version ∷ (tables_bytes tables ++ left)
  pub refused :
      IsRefused (table_limit (length tables) (after_tables tables)) (unread (after_tables tables) left) fault

abbrev pub VersionedFault : Bool → List ℕ → TdfFault → Type 0
VersionedFault true bytes fault = IsRefusedAfter bytes fault
VersionedFault false bytes fault = fault ≡ BadVersion

-- the fault of bytes that aren't a file
abbrev pub FileFault : List ℕ → TdfFault → Type 0
FileFault [] fault = fault ≡ Short 0
FileFault (first ∷ rest) fault = VersionedFault (first == version) (first ∷ rest) fault

-- ---- what a call answers

abbrev pub ReadsTable : Result TableView TdfFault → Definition → Type 0
ReadsTable (Ok table) d = table ≡ view_of d
ReadsTable (Err fault) d = fault ≡ Memory

abbrev pub ReadsFile : Result (List TableView) TdfFault → List Definition → Type 0
ReadsFile (Ok tables) ds = tables ≡ map view_of ds
ReadsFile (Err fault) ds = fault ≡ Memory

-- a refusal has its cause; want of memory is free
abbrev pub HasCause : (TdfFault → Type 0) → TdfFault → Type 0
HasCause cause Memory = Unit {0}
HasCause cause fault = cause fault

-- A script of one station: the collector's address, the station, its tables, and how many records are stored in each.
use Rattle.std.specs.Prelude.{◌≡◌, ◌≢◌, ℕ, zero, suc, ◌+◌, ◌-◌, ◌*◌, ◌^◌, ◌<◌, ◌≤◌, Bool, true, false, List, [], ◌∷◌, ◌++◌, length, slice_get, position, Option, Some, None}
use Rattle.std.specs.List.{All, AllByRecursion}
use Rattle.std.specs.Str.{bytes_eq}
use Rattle.pb_base.specs.Words.{IsNameByte}
use Rattle.pb_script.specs.declared.table.Kind.{Kind}
use Rattle.pb_script.specs.declared.table.Kind.TheVariants.{Fp2, Ascii}
use Rattle.pb_script.specs.declared.table.ScriptTable.{ScriptTable}
use Rattle.pb_script.specs.declared.table.Shape.{Shape}

-- `storing` says that a line which stores records was there: no table comes after it.
pub record Script : Type 0 where
  pub me : ℕ
  pub name : List ℕ
  pub addr : ℕ
  pub code : ℕ
  pub tables : List ScriptTable
  pub storing : Bool

-- ---- limits

-- the highest address of a node that isn't every node's
abbrev pub address_max : ℕ
address_max = 4094

-- the most bytes of a name
abbrev pub name_max : ℕ
name_max = 32

-- the most tables of a station
abbrev pub tables_max : ℕ
tables_max = 255

-- the most field bytes of a record
abbrev pub record_bytes_max : ℕ
record_bytes_max = 16384

-- the most bytes of the contents that all rings hold
abbrev pub ring_bytes_max : ℕ
ring_bytes_max = 67108864

-- the longest interval in seconds
abbrev pub interval_max : ℕ
interval_max = 2000000

-- the most records that are stored in one table
abbrev pub stored_max : ℕ
stored_max = 1000000

-- the last second that a time has
abbrev pub second_max : ℕ
second_max = 2147483647

-- ---- tables

-- the bytes of one value
abbrev pub width : Kind → ℕ
width Fp2 = 2
width Ascii = 1

-- the field bytes of a record
abbrev pub record_len : Shape → ℕ
record_len shape = width shape.kind * shape.count

-- what all of a ring holds: the times and the field bytes of its records
abbrev pub ring_bytes : Shape → ℕ
ring_bytes shape = shape.size * (8 + record_len shape)

abbrev pub all_ring_bytes : List ScriptTable → ℕ
all_ring_bytes [] = 0
all_ring_bytes (t ∷ tables) = ring_bytes t.shape + all_ring_bytes tables

-- the seconds from one record to the next; a table without an interval has events, one a second
abbrev pub step : ℕ → ℕ
step zero = 1
step (suc n) = suc n

-- the second of the record of this number
abbrev pub second_of : Shape → ℕ → ℕ
second_of shape n = n * step shape.interval

abbrev pub IsScriptName : List ℕ → Type 0
IsScriptName name = (1 ≤ length name) × (length name ≤ name_max) × All IsNameByte name

-- so many records may be stored in it: not too many, and the last one has a time
pub record HoldsRecords (t : ScriptTable) : Type 0 where
  pub few : t.stored ≤ stored_max
  pub last : second_of t.shape (t.stored - 1) ≤ second_max

pub record IsShape (shape : Shape) : Type 0 where
  pub size : (1 ≤ shape.size) × (shape.size < 2 ^ 32)
  pub interval : shape.interval ≤ interval_max
  pub count : 1 ≤ shape.count
  pub record_bytes : record_len shape ≤ record_bytes_max

pub record IsScriptTable (t : ScriptTable) : Type 0 where
  pub name : IsScriptName t.name
  pub shape : IsShape t.shape
  pub holds : HoldsRecords t

-- ---- how a script is put together

abbrev pub IsAddress : ℕ → Type 0
IsAddress n = (1 ≤ n) × (n ≤ address_max)

-- a station without tables, and who asks it
pub record CanBegin (s : Script) : Type 0 where
  pub me : IsAddress s.me
  pub addr : IsAddress s.addr
  pub not_me : s.addr ≢ s.me
  pub code : s.code < 2 ^ 16
  pub name : IsScriptName s.name
  pub tables : s.tables ≡ []
  pub storing : s.storing ≡ false

abbrev pub has_name : List ℕ → ScriptTable → Bool
has_name name t = bytes_eq t.name name

-- the place of the table of this name, from 0
abbrev pub place_of : List ℕ → List ScriptTable → Option ℕ
place_of name tables = position (has_name name) tables

-- a table may be added: it is new and empty, comes before all stores, and has room beside the others
pub record CanDeclare (s : Script) (t : ScriptTable) : Type 0 where
  pub before : s.storing ≡ false
  pub is : IsScriptTable t
  pub empty : t.stored ≡ 0
  pub few : length s.tables < tables_max
  pub new : place_of t.name s.tables ≡ None
  pub room : all_ring_bytes s.tables + ring_bytes t.shape ≤ ring_bytes_max

abbrev pub with_table : Script → ScriptTable → Script
with_table s t = record s { tables = s.tables ++ t ∷ [] }

abbrev pub with_records : ℕ → ScriptTable → ScriptTable
with_records n t = record t { stored = t.stored + n }

abbrev pub stored_at : ℕ → ℕ → List ScriptTable → List ScriptTable
stored_at place n [] = []
stored_at zero n (t ∷ tables) = with_records n t ∷ tables
stored_at (suc place) n (t ∷ tables) = t ∷ stored_at place n tables

-- so many records more may be stored in the table of this name, which has this place
pub record CanStore (s : Script) (name : List ℕ) (place n : ℕ) : Type 0 where
  pub table : ScriptTable
  pub named : IsScriptName name
  pub found : place_of name s.tables ≡ Some place
  pub at : slice_get s.tables place ≡ Some table
  pub holds : HoldsRecords (with_records n table)

abbrev pub with_store : Script → ℕ → ℕ → Script
with_store s place n = record s { tables = stored_at place n s.tables; storing = true }

-- ---- what every script has

pub record IsScript (s : Script) : Type 0 where
  pub addr : IsAddress s.addr
  pub code : s.code < 2 ^ 16
  pub name : IsScriptName s.name
  pub few : length s.tables ≤ tables_max
  pub each : AllByRecursion IsScriptTable s.tables
  pub room : all_ring_bytes s.tables ≤ ring_bytes_max

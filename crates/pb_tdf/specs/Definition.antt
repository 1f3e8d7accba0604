-- Table definitions as plain lists, and their bytes.
use Rattle.std.specs.Prelude.{◌≡◌, ℕ, ◌+◌, ◌*◌, ◌^◌, ◌<◌, ◌≤◌, ℤ, pos, negsuc, Bool, true, false, nat_lt, ◌&&◌, ◌||◌, IsTrue, is_some, List, [], ◌∷◌, ◌++◌, length, take, ◌==◌, if◌then◌else◌}
use Rattle.std.specs.List.{All, AllByRecursion, flat_map}
use Rattle.std.specs.Option.{unwrap_or}
use Rattle.std.specs.Int.{w32, to_be_bytes}
use Rattle.std.specs.Int.RustNames.{FitsSigned}
use Rattle.pb_base.specs.declared.nsec.Nsec.{Nsec}
use Rattle.pb_base.specs.Time.{time_bytes}
use Rattle.pb_tdf.specs.Kinds.{ascii, asciiz, value_bytes}

pub record FieldDefinition : Type 0 where
  pub kind : ℕ
  pub read_only : Bool
  pub name : List ℕ
  pub aliases : List (List ℕ)
  pub processing : List ℕ
  pub units : List ℕ
  pub description : List ℕ
  pub begin : ℕ
  pub dimension : ℕ
  pub sub_dimensions : List ℕ

-- one table
pub record Definition : Type 0 where
  pub name : List ℕ
  pub size : ℕ
  pub time_type : ℕ
  pub into : Nsec
  pub interval : Nsec
  pub fields : List FieldDefinition

-- ---- bytes

abbrev pub text : List ℕ → List ℕ
text t = t ++ 0 ∷ []

abbrev pub word : ℕ → List ℕ
word n = to_be_bytes w32 n

-- the type and, in the highest bit, whether the field is read only
abbrev pub type_byte : FieldDefinition → ℕ
type_byte f = (if f.read_only then 128 else 0) + f.kind

-- An empty text ends the aliases, and a 0 the sub-dimensions.
abbrev pub field_bytes : FieldDefinition → List ℕ
field_bytes f =
    type_byte f
    ∷ (text f.name ++ (flat_map text f.aliases ++ (text []
    ++ (text f.processing ++ (text f.units ++ (text f.description
    ++ (word f.begin ++ (word f.dimension ++ (flat_map word f.sub_dimensions ++ word 0)))))))))

-- A type byte of 0 ends the fields.
abbrev pub table_bytes : Definition → List ℕ
table_bytes d =
    text d.name ++ (word d.size ++ d.time_type
    ∷ (time_bytes d.into ++ (time_bytes d.interval ++ (flat_map field_bytes d.fields ++ 0 ∷ []))))

-- ---- what a field adds to a record

-- An ASCII field is one value, whatever its dimension.
abbrev pub values_of : ℕ → ℕ → ℕ
values_of kind dimension = if kind == ascii then 1 else dimension

abbrev pub record_bytes_of : ℕ → ℕ → ℕ
record_bytes_of kind dimension = unwrap_or (value_bytes kind) 0 * dimension

abbrev pub values : FieldDefinition → ℕ
values f = values_of f.kind f.dimension

abbrev pub record_bytes : FieldDefinition → ℕ
record_bytes f = record_bytes_of f.kind f.dimension

abbrev pub all_values : List FieldDefinition → ℕ
all_values [] = 0
all_values (f ∷ fields) = values f + all_values fields

abbrev pub all_record_bytes : List FieldDefinition → ℕ
all_record_bytes [] = 0
all_record_bytes (f ∷ fields) = record_bytes f + all_record_bytes fields

-- a field is a text of any length
abbrev pub has_asciiz : List FieldDefinition → Bool
has_asciiz [] = false
has_asciiz (f ∷ fields) = (f.kind == asciiz) || has_asciiz fields

-- ---- which definitions there are

-- it has no zero byte
abbrev pub IsText : List ℕ → Type 0
IsText t = All (λ byte. 0 < byte) t

abbrev pub IsAlias : List ℕ → Type 0
IsAlias t = (0 < length t) × IsText t

abbrev pub IsSubDimension : ℕ → Type 0
IsSubDimension n = (0 < n) × (n < 2 ^ 32)

pub record IsField (f : FieldDefinition) : Type 0 where
  pub kind : IsTrue (is_some (value_bytes f.kind))
  pub name : IsText f.name
  pub aliases : AllByRecursion IsAlias f.aliases
  pub processing : IsText f.processing
  pub units : IsText f.units
  pub description : IsText f.description
  pub begin : f.begin < 2 ^ 32
  pub dimension : f.dimension < 2 ^ 32
  pub sub_dimensions : AllByRecursion IsSubDimension f.sub_dimensions

abbrev pub IsTime : Nsec → Type 0
IsTime t = FitsSigned w32 t.sec × FitsSigned w32 t.nano

abbrev pub is_second : ℤ → Bool
is_second (pos n) = true
is_second (negsuc n) = false

abbrev pub is_nano : ℤ → Bool
is_nano (pos n) = nat_lt n 1000000000
is_nano (negsuc n) = false

-- not negative, and its nanoseconds are less than a second
abbrev pub is_interval : Nsec → Bool
is_interval t = is_second t.sec && is_nano t.nano

-- all but the limits
pub record IsFormed (d : Definition) : Type 0 where
  pub name : IsText d.name
  pub size : d.size < 2 ^ 32
  pub time_type : d.time_type < 2 ^ 8
  pub into : IsTime d.into
  pub interval : IsTime d.interval × IsTrue (is_interval d.interval)
  pub fields : AllByRecursion IsField d.fields

-- the limits of one table
abbrev pub table_bytes_max : ℕ
table_bytes_max = 60000

abbrev pub fields_max : ℕ
fields_max = 1024

abbrev pub values_max : ℕ
values_max = 16384

abbrev pub record_bytes_max : ℕ
record_bytes_max = 16384

-- of a file
abbrev pub file_bytes_max : ℕ
file_bytes_max = 262144

abbrev pub tables_max : ℕ
tables_max = 255

pub record IsWithin (d : Definition) : Type 0 where
  pub fields : length d.fields ≤ fields_max
  pub values : all_values d.fields ≤ values_max
  pub record_bytes : all_record_bytes d.fields ≤ record_bytes_max
  pub bytes : length (table_bytes d) ≤ table_bytes_max

-- The bytes are this table, within the limits.
pub record TableBytes (d : Definition) (bytes : List ℕ) : Type 0 where
  pub formed : IsFormed d
  pub within : IsWithin d
  pub same : bytes ≡ table_bytes d

-- the first byte of a file
abbrev pub version : ℕ
version = 1

-- the tables' bytes, one after another
abbrev pub tables_bytes : List Definition → List ℕ
tables_bytes tables = flat_map table_bytes tables

abbrev pub IsTable : Definition → Type 0
IsTable d = TableBytes d (table_bytes d)

-- The table of this place in its file, from 0: its bytes follow those of the tables before it.
pub record IsPartOf (bytes : List ℕ) (tables : List Definition) (n : ℕ) (d : Definition) : Type 0 where
  pub after : List ℕ
  pub is : IsTable d
  pub parts : bytes ≡ version ∷ (tables_bytes (take n tables) ++ (table_bytes d ++ after))

-- The bytes are a file of these tables, within the limits.
pub record FileBytes (tables : List Definition) (bytes : List ℕ) : Type 0 where
  pub each : AllByRecursion IsTable tables
  pub count : length tables ≤ tables_max
  pub len : length bytes ≤ file_bytes_max
  pub same : bytes ≡ version ∷ tables_bytes tables

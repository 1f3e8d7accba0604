-- How far a reading has come: the bytes of what was read are before it, and what was read is formed.
use Rattle.std.specs.Prelude.{◌≡◌, ℕ, ◌+◌, ◌≤◌, ◌<◌, ◌^◌, IsTrue, is_some, List, [], ◌∷◌, ◌++◌, length}
use Rattle.std.specs.List.{AllByRecursion, flat_map}
use Rattle.pb_base.specs.Fields.{IsBytes}
use Rattle.pb_base.specs.Time.{time_bytes}
use Rattle.pb_tdf.specs.Kinds.{value_bytes}
use Rattle.pb_tdf.specs.Definition.{FieldDefinition, Definition, text, word, type_byte, field_bytes, values, record_bytes, all_values, all_record_bytes, IsText, IsAlias, IsSubDimension, IsTime, IsFormed, fields_max, values_max, record_bytes_max}
use Rattle.pb_tdf.specs.Order.{Next, Name, Size, TimeType, Into, Interval, Kind, FieldName, Alias, Processing, Units, Description, Begin, Dimension, SubDimension, Point}

-- ---- the bytes of what was read

abbrev pub header : Definition → List ℕ
header d = (((text d.name ++ word d.size) ++ d.time_type ∷ []) ++ time_bytes d.into) ++ time_bytes d.interval

abbrev pub to_fields : Definition → List ℕ
to_fields d = header d ++ flat_map field_bytes d.fields

abbrev pub to_name : Definition → FieldDefinition → List ℕ
to_name d f = (to_fields d ++ type_byte f ∷ []) ++ text f.name

abbrev pub to_texts : Definition → FieldDefinition → List ℕ
to_texts d f = (to_name d f ++ flat_map text f.aliases) ++ text []

abbrev pub to_begin : Definition → FieldDefinition → List ℕ
to_begin d f = (((to_texts d f ++ text f.processing) ++ text f.units) ++ text f.description) ++ word f.begin

abbrev pub prefix : Next → Definition → FieldDefinition → List ℕ
prefix Name d f = []
prefix Size d f = text d.name
prefix TimeType d f = text d.name ++ word d.size
prefix Into d f = (text d.name ++ word d.size) ++ d.time_type ∷ []
prefix Interval d f = ((text d.name ++ word d.size) ++ d.time_type ∷ []) ++ time_bytes d.into
prefix Kind d f = to_fields d
prefix FieldName d f = to_fields d ++ type_byte f ∷ []
prefix Alias d f = to_name d f ++ flat_map text f.aliases
prefix Processing d f = to_texts d f
prefix Units d f = to_texts d f ++ text f.processing
prefix Description d f = (to_texts d f ++ text f.processing) ++ text f.units
prefix Begin d f = ((to_texts d f ++ text f.processing) ++ text f.units) ++ text f.description
prefix Dimension d f = to_begin d f
prefix SubDimension d f = (to_begin d f ++ word f.dimension) ++ flat_map word f.sub_dimensions

-- ---- what is known of it

pub record IsTableSoFar (d : Definition) : Type 0 where
  pub formed : IsFormed d
  pub fields : length d.fields ≤ fields_max
  pub values : all_values d.fields ≤ values_max
  pub record_bytes : all_record_bytes d.fields ≤ record_bytes_max

pub record IsBegun (d : Definition) (kind : ℕ) : Type 0 where
  pub table : IsTableSoFar d
  pub is_kind : IsTrue (is_some (value_bytes kind))
  pub room : length d.fields < fields_max

abbrev pub HasAliases : Definition → FieldDefinition → Type 0
HasAliases d f = IsBegun d f.kind × IsText f.name × AllByRecursion IsAlias f.aliases

abbrev pub HasTexts : Definition → FieldDefinition → Type 0
HasTexts d f = HasAliases d f × IsText f.processing × IsText f.units × IsText f.description

abbrev pub Known : Next → Definition → FieldDefinition → Type 0
Known Name d f = Unit {0}
Known Size d f = IsText d.name
Known TimeType d f = IsText d.name × (d.size < 2 ^ 32)
Known Into d f = IsText d.name × (d.size < 2 ^ 32) × (d.time_type < 2 ^ 8)
Known Interval d f = IsText d.name × (d.size < 2 ^ 32) × (d.time_type < 2 ^ 8) × IsTime d.into
Known Kind d f = IsTableSoFar d
Known FieldName d f = IsBegun d f.kind
Known Alias d f = HasAliases d f
Known Processing d f = HasAliases d f
Known Units d f = HasAliases d f × IsText f.processing
Known Description d f = HasAliases d f × IsText f.processing × IsText f.units
Known Begin d f = HasTexts d f
Known Dimension d f = HasTexts d f × (f.begin < 2 ^ 32)
Known SubDimension d f =
    HasTexts d f × (f.begin < 2 ^ 32) × (f.dimension < 2 ^ 32) × AllByRecursion IsSubDimension f.sub_dimensions
    × (all_values d.fields + values f ≤ values_max) × (all_record_bytes d.fields + record_bytes f ≤ record_bytes_max)

-- a reading of bytes that begin at a place
pub record HasRead (bytes : List ℕ) (start : ℕ) (s : Point) : Type 0 where
  pub parts : bytes ≡ prefix s.next s.table s.field ++ s.left.rest
  pub at : s.left.at ≡ start + length (prefix s.next s.table s.field)
  pub left : IsBytes s.left.rest
  pub known : Known s.next s.table s.field

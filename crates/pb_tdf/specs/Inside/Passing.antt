-- What the reader's own steps do: they pass items, from one point to another.
use Rattle.std.specs.Prelude.{◌≡◌, ℕ, ◌+◌, ◌-◌, ◌≤◌, nat_le, Bool, ◌||◌, ◌&&◌, List, [], ◌∷◌, ◌++◌, length, map, Result, Ok, Err, Option, Some, None, ◌==◌, if◌then◌else◌}
use Rattle.std.specs.List.{AllByRecursion}
use Rattle.std.specs.Int.{w32}
use Rattle.pb_base.specs.Fields.{Unread, IsBytes, number_at}
use Rattle.pb_tdf.specs.declared.fault.TdfFault.{TdfFault}
use Rattle.pb_tdf.specs.declared.place.FieldPlace.{FieldPlace}
use Rattle.pb_tdf.specs.declared.totals.Totals.{Totals}
use Rattle.pb_tdf.specs.declared.reading.Header.{Header}
use Rattle.pb_tdf.specs.declared.reading.Parts.{Parts}
use Rattle.std.specs.Global.{Vec}
use Rattle.pb_tdf.specs.Kinds.{asciiz}
use Rattle.pb_tdf.specs.Definition.{FieldDefinition, Definition, values_of, record_bytes_of, all_values, all_record_bytes, has_asciiz, values_max, record_bytes_max, IsTable, tables_bytes, version, tables_max, file_bytes_max}
use Rattle.pb_tdf.specs.View.{TableView, view_of, is_event, no_layout}
use Rattle.pb_tdf.specs.Inside.Kept.{IsPlace, ArePlaces}
use Rattle.pb_tdf.specs.declared.fault.Uncollectable.{Uncollectable}
use Rattle.pb_base.specs.declared.nsec.Nsec.{Nsec}
use Rattle.pb_base.specs.declared.layout.Layout.{Layout}
use Rattle.pb_tdf.specs.Inside.Progress.{HasRead, header}
use Rattle.pb_tdf.specs.Places.{after_tables}
use Rattle.pb_tdf.specs.Refusal.{HasCause}
use Rattle.pb_tdf.specs.Order.{item, any, Point, Reaches, ComesTo, at_item, with_field, table_begins, begun_field, Kind, FieldName, Alias, Processing, Dimension, SubDimension}
use Rattle.pb_tdf.specs.Inside.Items.{ReadsItem, Limited}

-- a call read the items between two points
pub record Passes (old new : Limited) (s t : Point) : Type 0 where
  pub items : Reaches old.limit s t
  pub same_limit : new.limit ≡ old.limit

-- a call met the item that is refused
abbrev pub IsStopped : Limited → Point → TdfFault → Type 0
IsStopped old s fault = ComesTo old.limit s (Err fault)

abbrev pub PassesTexts : Limited → Limited → Result Unit TdfFault → Type 0
PassesTexts old new (Ok x) =
    (d : Definition) (f : FieldDefinition) → (aliases : List (List ℕ))
    × Passes old new (at_item Alias d f old.left) (at_item Processing d (record f { aliases = aliases }) new.left)
PassesTexts old new (Err fault) =
    (d : Definition) (f : FieldDefinition) → IsStopped old (at_item Alias d f old.left) fault

-- what the fields add up to
pub record IsTotals (of : List FieldDefinition) (t : Totals) : Type 0 where
  pub fields : length of ≡ t.fields
  pub values : all_values of ≡ t.values
  pub record_bytes : all_record_bytes of ≡ t.record_bytes
  pub uncollectable : has_asciiz of ≡ t.uncollectable

-- with one more field
abbrev pub totals_with : Totals → ℕ → ℕ → Totals
totals_with t kind dimension =
    record {
      fields = t.fields + 1;
      values = t.values + values_of kind dimension;
      record_bytes = t.record_bytes + record_bytes_of kind dimension;
      uncollectable = t.uncollectable || (kind == asciiz);
    }

abbrev pub are_within : Totals → Bool
are_within t = nat_le t.values values_max && nat_le t.record_bytes record_bytes_max

abbrev pub counted_dimension : Totals → ℕ → ℕ → Unread → Result (ℕ × Unread) TdfFault
counted_dimension t kind limit u = item limit u (number_at w32 u) any (λ n. are_within (totals_with t kind n))

abbrev pub ReadsDimension : Totals → ℕ → Limited → Limited → Result (ℕ × Totals) TdfFault → Type 0
ReadsDimension t kind old new (Ok x) =
    ReadsItem (counted_dimension t kind) old new x.0 × (x.1 ≡ totals_with t kind x.0)
ReadsDimension t kind old new (Err fault) = counted_dimension t kind old.limit old.left ≡ Err fault

abbrev pub PassesWords : Limited → Limited → Result Unit TdfFault → Type 0
PassesWords old new (Ok x) =
    (d : Definition) (f : FieldDefinition) → (subs : List ℕ)
    × (let g : FieldDefinition = record f { sub_dimensions = subs } in
    Passes old new (at_item SubDimension d f old.left) (at_item Kind (with_field d g) g new.left))
PassesWords old new (Err fault) =
    (d : Definition) (f : FieldDefinition) → IsStopped old (at_item SubDimension d f old.left) fault

-- the items of a field between its type and its dimension, of which the length of the name is kept
abbrev pub PassesDescription : Limited → Limited → Result ℕ TdfFault → Type 0
PassesDescription old new (Ok name_len) =
    (d : Definition) (f : FieldDefinition) → (g : FieldDefinition)
    × Passes old new (at_item FieldName d f old.left) (at_item Dimension d g new.left)
    × (g.kind ≡ f.kind) × (length g.name ≡ name_len)
PassesDescription old new (Err fault) =
    (d : Definition) (f : FieldDefinition) → IsStopped old (at_item FieldName d f old.left) fault

-- a field after those of a table that begins at a place
pub record PassesField (old new : Limited) (start : ℕ) (d : Definition) (f0 : FieldDefinition)
    (place : FieldPlace) (totals : Totals) : Type 0 where
  pub field : FieldDefinition
  pub passes : Passes old new (at_item Kind d f0 old.left) (at_item Kind (with_field d field) field new.left)
  pub sums : IsTotals (d.fields ++ field ∷ []) totals
  pub located : IsPlace (old.left.at - start) field place

-- the fields of a table and the 0 that ends them
abbrev pub PassesFieldOrEnd : Limited → Limited → ℕ → Totals
    → Result (Option (FieldPlace × Totals)) TdfFault → Type 0
PassesFieldOrEnd old new start totals (Ok (Some x)) =
    (d : Definition) (f0 : FieldDefinition) → IsTotals d.fields totals → PassesField old new start d f0 x.0 x.1
PassesFieldOrEnd old new start totals (Ok None) =
    (d : Definition) (f0 : FieldDefinition) → IsTotals d.fields totals
    → ComesTo old.limit (at_item Kind d f0 old.left) (Ok (d, new.left))
PassesFieldOrEnd old new start totals (Err fault) =
    (d : Definition) (f0 : FieldDefinition) → IsTotals d.fields totals
    → IsStopped old (at_item Kind d f0 old.left) fault

-- the items of a table before its fields
pub record PassesHeader (old new : Limited) (h : Header) : Type 0 where
  pub table : Definition
  pub passes : Passes old new (table_begins old.left) (at_item Kind table (begun_field 0) new.left)
  pub no_fields : table.fields ≡ []
  pub name_len : h.name_len ≡ length table.name
  pub size : h.size ≡ table.size
  pub interval : h.interval ≡ table.interval

abbrev pub PassesHeaderOrStops : Limited → Limited → Result Header TdfFault → Type 0
PassesHeaderOrStops old new (Ok h) = PassesHeader old new h
PassesHeaderOrStops old new (Err fault) = IsStopped old (table_begins old.left) fault

-- some fields of a table that begins at a place
pub record PassesSome (old now : Limited) (start : ℕ) (d : Definition) (f0 : FieldDefinition)
    (places : List FieldPlace) (totals : Totals) : Type 0 where
  pub fields : List FieldDefinition
  pub last : FieldDefinition
  pub passes :
      Passes old now (at_item Kind d f0 old.left) (at_item Kind (record d { fields = fields }) last now.left)
  pub sums : IsTotals fields totals
  pub located : (bytes : List ℕ) → HasRead bytes start (at_item Kind d f0 old.left)
      → ArePlaces (length (header d)) fields places

-- all fields of a table that begins at a place, and the 0 that ends them
pub record PassesFields (old new : Limited) (d : Definition) (f0 : FieldDefinition)
    (places : List FieldPlace) (totals : Totals) : Type 0 where
  pub fields : List FieldDefinition
  pub ends : ComesTo old.limit (at_item Kind d f0 old.left) (Ok (record d { fields = fields }, new.left))
  pub sums : IsTotals fields totals
  pub located : ArePlaces (length (header d)) fields places

abbrev pub PassesFieldsOrStops : Limited → Limited → ℕ
    → Result (Vec FieldPlace × Totals) TdfFault → Type 0
PassesFieldsOrStops old new start (Ok x) =
    (bytes : List ℕ) (d : Definition) (f0 : FieldDefinition) → d.fields ≡ []
    → HasRead bytes start (at_item Kind d f0 old.left)
    → PassesFields old new d f0 x.0.items x.1
PassesFieldsOrStops old new start (Err fault) =
    (d : Definition) (f0 : FieldDefinition) → d.fields ≡ []
    → HasCause (IsStopped old (at_item Kind d f0 old.left)) fault

-- a whole table
pub record PassesTable (old new : Limited) (parts : Parts) : Type 0 where
  pub table : Definition
  pub ends : ComesTo old.limit (table_begins old.left) (Ok (table, new.left))
  pub name_len : parts.header.name_len ≡ length table.name
  pub size : parts.header.size ≡ table.size
  pub interval : parts.header.interval ≡ table.interval
  pub sums : IsTotals table.fields parts.totals
  pub located : ArePlaces (length (header table)) table.fields parts.places.items

abbrev pub PassesTableOrStops : Limited → Limited → Result Parts TdfFault → Type 0
PassesTableOrStops old new (Ok parts) = IsBytes old.left.rest → PassesTable old new parts
PassesTableOrStops old new (Err fault) = HasCause (IsStopped old (table_begins old.left)) fault

-- a table that was made of the bytes that were read
abbrev pub MakesTable : Limited → Limited → Result TableView TdfFault → Type 0
MakesTable old new (Ok table) =
    (d : Definition) × ComesTo old.limit (table_begins old.left) (Ok (d, new.left)) × (table ≡ view_of d)
MakesTable old new (Err fault) = HasCause (IsStopped old (table_begins old.left)) fault

-- the layout that the sums say
abbrev pub summed_layout : Totals → Nsec → Result Layout Uncollectable
summed_layout t interval =
    if t.uncollectable then Err no_layout
    else Ok (record { record_len = t.record_bytes; event = is_event interval; interval = interval })

-- the whole tables of a file, up to what is left
pub record TablesSoFar (bytes : List ℕ) (left : Unread) (tables : List TableView) : Type 0 where
  pub definitions : List Definition
  pub each : AllByRecursion IsTable definitions
  pub count : length definitions ≤ tables_max
  pub within : after_tables definitions ≤ file_bytes_max
  pub parts : bytes ≡ version ∷ (tables_bytes definitions ++ left.rest)
  pub at : left.at ≡ after_tables definitions
  pub fits : IsBytes left.rest
  pub are_views : tables ≡ map view_of definitions

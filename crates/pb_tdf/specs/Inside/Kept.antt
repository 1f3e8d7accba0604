-- What is kept of a table: its bytes, and the places of its fields in them.
use Rattle.std.specs.Prelude.{◌≡◌, ℕ, ◌+◌, ◌%◌, ◌≤◌, nat_le, slice_index, take, drop, List, [], ◌∷◌, length, Result}
use Rattle.pb_base.specs.declared.layout.Layout.{Layout}
use Rattle.pb_tdf.specs.declared.fault.Uncollectable.{Uncollectable}
use Rattle.pb_tdf.specs.declared.place.FieldPlace.{FieldPlace}
use Rattle.pb_tdf.specs.Definition.{FieldDefinition, Definition, IsTable, field_bytes, table_bytes}
use Rattle.pb_tdf.specs.View.{FieldView, signature_of, layout_of}
use Rattle.pb_tdf.specs.Inside.Progress.{header}

-- the place of a field
pub record IsPlace (at : ℕ) (f : FieldDefinition) (place : FieldPlace) : Type 0 where
  pub begins : place.at ≡ at
  pub name_len : place.name_len ≡ length f.name
  pub dimension : place.dimension ≡ f.dimension

-- the places of fields, the first at a place, and each after the one before
abbrev pub ArePlaces : ℕ → List FieldDefinition → List FieldPlace → Type 0
ArePlaces at [] [] = Unit {0}
ArePlaces at [] (place ∷ places) = ⊥
ArePlaces at (f ∷ fields) [] = ⊥
ArePlaces at (f ∷ fields) (place ∷ places) =
    IsPlace at f place × ArePlaces (at + length (field_bytes f)) fields places

-- what a table's bytes have at a field's place
abbrev pub field_at : List ℕ → FieldPlace → FieldView
field_at bytes place =
    let type = slice_index bytes place.at in
    record {
      kind = type % 128;
      read_only = nat_le 128 type;
      name = take place.name_len (drop (place.at + 1) bytes);
      dimension = place.dimension;
    }

-- the field's name lies within so many bytes
abbrev pub Lies : ℕ → FieldPlace → Type 0
Lies len place = place.at + 1 + place.name_len ≤ len

-- what is kept of a table's definition
pub record IsKept (kept : List ℕ) (name_len size signature : ℕ)
    (layout : Result Layout Uncollectable) (places : List FieldPlace) : Type 0 where
  pub definition : Definition
  pub is : IsTable definition
  pub same_bytes : kept ≡ table_bytes definition
  pub same_name_len : name_len ≡ length definition.name
  pub same_size : size ≡ definition.size
  pub same_signature : signature ≡ signature_of definition
  pub same_layout : layout ≡ layout_of definition
  pub located : ArePlaces (length (header definition)) definition.fields places

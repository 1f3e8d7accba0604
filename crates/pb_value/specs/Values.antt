-- The values of a record, in the order of its table's fields.
use Rattle.std.specs.Prelude.{◌≡◌, ℕ, ◌+◌, List, [], ◌∷◌, length, take, drop, replicate, Result, Ok, Err, ◌==◌, if◌then◌else◌}
use Rattle.std.specs.List.{flat_map}
use Rattle.std.specs.Option.{unwrap_or}
use Rattle.pb_base.specs.declared.layout.Layout.{Layout}
use Rattle.pb_tdf.specs.declared.fault.Uncollectable.{Uncollectable}
use Rattle.pb_tdf.specs.Kinds.{ascii, value_bytes}
use Rattle.pb_tdf.specs.View.{FieldView, TableView}

-- the code of a value's type, and how many bytes it has
pub record Shape : Type 0 where
  pub kind : ℕ
  pub len : ℕ

-- what is seen of a value
pub record ValueView : Type 0 where
  pub kind : ℕ
  pub bytes : List ℕ

abbrev pub shape : ℕ → ℕ → Shape
shape kind len = record { kind = kind; len = len }

-- A field has as many values as its dimension says; an ASCII field is one value of as many bytes.
abbrev pub field_shapes : FieldView → List Shape
field_shapes f =
    if f.kind == ascii then shape f.kind f.dimension ∷ []
    else replicate f.dimension (shape f.kind (unwrap_or (value_bytes f.kind) 0))

abbrev pub shapes : List FieldView → List Shape
shapes fields = flat_map field_shapes fields

-- all bytes of values of these shapes
abbrev pub bytes_of : List Shape → ℕ
bytes_of [] = 0
bytes_of (s ∷ rest) = s.len + bytes_of rest

-- a list of bytes, cut into values of these shapes
abbrev pub cut : List Shape → List ℕ → List ValueView
cut [] bytes = []
cut (s ∷ rest) bytes = record { kind = s.kind; bytes = take s.len bytes } ∷ cut rest (drop s.len bytes)

-- the values of a record of a table with these fields
abbrev pub values_of : List FieldView → List ℕ → List ValueView
values_of fields bytes = cut (shapes fields) bytes

-- as many bytes as a record of this layout has
abbrev pub HasRecordLen : Result Layout Uncollectable → ℕ → Type 0
HasRecordLen (Ok layout) len = len ≡ layout.record_len
HasRecordLen (Err none) len = ⊥

-- The table has a layout, and the bytes are the field bytes of one of its records.
abbrev pub IsRecordOf : TableView → List ℕ → Type 0
IsRecordOf table bytes = HasRecordLen table.layout (length bytes)

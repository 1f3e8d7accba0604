-- Fields as they are handed out.
use Rattle.std.specs.Prelude.{◌≡◌, Option, Some, None}
use Rattle.pb_tdf.specs.declared.field.Field.{Field}
use Rattle.pb_tdf.specs.View.{FieldView}

abbrev pub seen_of : Field → FieldView
seen_of f = record { kind = f.kind; read_only = f.read_only; name = f.name.now; dimension = f.dimension }

-- the field that is seen, where there is one
abbrev pub SeesField : Option Field → Option FieldView → Type 0
SeesField (Some f) expected = expected ≡ Some (seen_of f)
SeesField None expected = expected ≡ None

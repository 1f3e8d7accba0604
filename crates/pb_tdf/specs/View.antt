-- What is seen of a table of a definition.
use Rattle.std.specs.Prelude.{◌≡◌, ℕ, map, ℤ, pos, negsuc, Bool, false, ◌&&◌, ◌==◌, if◌then◌else◌, List, Result, Ok, Err}
use Rattle.pb_base.specs.declared.nsec.Nsec.{Nsec}
use Rattle.pb_base.specs.declared.layout.Layout.{Layout}
use Rattle.pb_frame.specs.Signature.{start, sig}
use Rattle.pb_tdf.specs.declared.fault.Uncollectable.{Uncollectable}
use Rattle.pb_tdf.specs.Definition.{FieldDefinition, Definition, IsTable, table_bytes, all_record_bytes, has_asciiz}

abbrev pub is_zero : ℤ → Bool
is_zero (pos n) = n == 0
is_zero (negsuc n) = false

-- a table without an interval has events
abbrev pub is_event : Nsec → Bool
is_event t = is_zero t.sec && is_zero t.nano

abbrev pub no_layout : Uncollectable
no_layout = record {}

-- how the records are cut; none where a field is a text of any length
abbrev pub layout_of : Definition → Result Layout Uncollectable
layout_of d =
    if has_asciiz d.fields then Err no_layout
    else Ok (record { record_len = all_record_bytes d.fields; event = is_event d.interval; interval = d.interval })

-- the signature of the table's bytes
abbrev pub signature_of : Definition → ℕ
signature_of d = sig (table_bytes d) start

-- what is seen of a field
pub record FieldView : Type 0 where
  pub kind : ℕ
  pub read_only : Bool
  pub name : List ℕ
  pub dimension : ℕ

-- what is seen of a table
pub record TableView : Type 0 where
  pub bytes : List ℕ
  pub name : List ℕ
  pub size : ℕ
  pub signature : ℕ
  pub layout : Result Layout Uncollectable
  pub fields : List FieldView

abbrev pub field_view : FieldDefinition → FieldView
field_view f = record { kind = f.kind; read_only = f.read_only; name = f.name; dimension = f.dimension }

-- the one table of a definition
abbrev pub view_of : Definition → TableView
view_of d =
    record {
      bytes = table_bytes d;
      name = d.name;
      size = d.size;
      signature = signature_of d;
      layout = layout_of d;
      fields = map field_view d.fields;
    }

-- a table of a definition within the limits
abbrev pub IsDefined : TableView → Type 0
IsDefined t = (d : Definition) × IsTable d × (t ≡ view_of d)

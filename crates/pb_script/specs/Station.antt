-- The station that a script stands for.
use Rattle.std.specs.Prelude.{ℕ, zero, suc, ◌+◌, ◌*◌, ◌%◌, pos, false, List, [], ◌∷◌, ◌++◌, map}
use Rattle.std.specs.Int.{w16, to_be_bytes}
use Rattle.pb_base.specs.declared.nsec.Nsec.{Nsec}
use Rattle.pb_base.specs.declared.layout.Layout.{Layout}
use Rattle.pb_base.specs.World.{StoredRecord}
use Rattle.pb_tdf.specs.Definition.{FieldDefinition, Definition, version, tables_bytes}
use Rattle.pb_tdf.specs.View.{signature_of, is_event}
use Rattle.pb_station.specs.Making.{new_device}
use Rattle.pb_station.specs.State.{Table, State}
use Rattle.pb_script.specs.declared.table.Kind.{Kind}
use Rattle.pb_script.specs.declared.table.Kind.TheVariants.{Fp2, Ascii}
use Rattle.pb_script.specs.declared.table.ScriptTable.{ScriptTable}
use Rattle.pb_script.specs.declared.table.Shape.{Shape}
use Rattle.pb_script.specs.Script.{Script, record_len, second_of}

-- ---- its table definition file

-- the code of the field's type
abbrev pub kind_code : Kind → ℕ
kind_code Fp2 = 7
kind_code Ascii = 11

-- one field `V`, from index 1 on, with nothing else to say of it
abbrev pub field_of : Shape → FieldDefinition
field_of shape = record {
  kind = kind_code shape.kind;
  read_only = false;
  name = 86 ∷ [];
  aliases = [];
  processing = [];
  units = [];
  description = [];
  begin = 1;
  dimension = shape.count;
  sub_dimensions = [];
}

abbrev pub seconds : ℕ → Nsec
seconds n = record { sec = pos n; nano = pos 0 }

-- times of eight bytes
abbrev pub time_type : ℕ
time_type = 14

abbrev pub definition_of : ScriptTable → Definition
definition_of t = record {
  name = t.name;
  size = t.shape.size;
  time_type = time_type;
  into = seconds 0;
  interval = seconds t.shape.interval;
  fields = field_of t.shape ∷ [];
}

abbrev pub definitions_of : Script → List Definition
definitions_of s = map definition_of s.tables

abbrev pub definition_file : Script → List ℕ
definition_file s = version ∷ tables_bytes (definitions_of s)

-- ---- its records

-- Value k of record n: an FP2 number that is no more than 3999, or a letter.
abbrev pub value_of : Kind → (n k : ℕ) → List ℕ
value_of Fp2 n k = to_be_bytes w16 (0x4000 + (10 * n + k) % 4000)
value_of Ascii n k = (0x41 + (n + k) % 26) ∷ []

-- the first so many values of record n
abbrev pub values_of : Kind → (n count : ℕ) → List ℕ
values_of kind n zero = []
values_of kind n (suc k) = values_of kind n k ++ value_of kind n k

abbrev pub record_of : ScriptTable → ℕ → StoredRecord
record_of t n = record { time = seconds (second_of t.shape n); bytes = values_of t.shape.kind n t.shape.count }

-- the records below a number
abbrev pub records_below : ScriptTable → ℕ → List StoredRecord
records_below t zero = []
records_below t (suc n) = records_below t n ++ record_of t n ∷ []

-- ---- the station

abbrev pub layout_of : Shape → Layout
layout_of shape =
    record { record_len = record_len shape; event = is_event (seconds shape.interval); interval = seconds shape.interval }

-- its table with so many records stored
abbrev pub holding : ℕ → ScriptTable → Table
holding n t = record {
  signature = signature_of (definition_of t);
  layout = layout_of t.shape;
  capacity = t.shape.size;
  stored = records_below t n;
}

abbrev pub filled : ScriptTable → Table
filled t = holding t.stored t

-- The station of a script: its clock stands at 0, it has no name and no downloaded files, and all records are stored.
abbrev pub state_of : Script → State
state_of s = record { device = new_device s.addr s.code (definition_file s); tables = map filled s.tables }

-- The CSV text of a table's rows: a row of names, and then one for each record that is kept and one for each gap.
use Rattle.std.specs.Prelude.{ℕ, zero, suc, ◌-◌, Bool, ◌||◌, ◌==◌, if◌then◌else◌, List, [], ◌∷◌, ◌++◌, map, drop, codes, decimal}
use Rattle.std.specs.List.{flat_map}
use Rattle.csv.specs.Writing.{default_writer, row_text}
use Rattle.pb_base.specs.Time.{time_of}
use Rattle.pb_tdf.specs.Kinds.{ascii}
use Rattle.pb_tdf.specs.View.{FieldView}
use Rattle.pb_value.specs.Escape.{name_text}
use Rattle.pb_value.specs.TimeText.{time_text}
use Rattle.pb_value.specs.Values.{ValueView, values_of}
use Rattle.pb_value.specs.ValueText.{value_text}
use Rattle.pb_archive.specs.Rows.{SeenRow, kept, gap}

-- a row, quoted as the crate `csv` does by default
abbrev pub csv_row : List (List ℕ) → List ℕ
csv_row fields = row_text default_writer fields

-- ---- names

-- the name of one of several values of a field: with its number, from 1
abbrev pub numbered_name : List ℕ → ℕ → List ℕ
numbered_name name number = name ++ (codes "(" ++ (decimal number ++ codes ")"))

abbrev pub numbered_names : List ℕ → ℕ → List (List ℕ)
numbered_names name zero = []
numbered_names name (suc n) = numbered_names name n ++ numbered_name name (suc n) ∷ []

-- the field has one value, whose name is the field's
abbrev pub is_single : FieldView → Bool
is_single f = (f.kind == ascii) || (f.dimension == 1)

abbrev pub names_of : FieldView → List (List ℕ)
names_of f = if is_single f then name_text f.name ∷ [] else numbered_names (name_text f.name) f.dimension

abbrev pub value_names : List FieldView → List (List ℕ)
value_names fields = flat_map names_of fields

-- ---- the fields of a row

abbrev pub header_fields : List FieldView → List (List ℕ)
header_fields fields = codes "record" ∷ codes "time" ∷ value_names fields

abbrev pub value_field : ValueView → List ℕ
value_field v = value_text v.kind v.bytes

abbrev pub empty_field : List ℕ → List ℕ
empty_field name = []

-- A kept record: its number, its time and its values. A gap: its first and its last number, and no values.
abbrev pub row_fields : List FieldView → SeenRow → List (List ℕ)
row_fields fields (kept number content) =
    decimal number ∷ time_text (time_of content) ∷ map value_field (values_of fields (drop 8 content))
row_fields fields (gap from to) =
    (decimal from ++ (codes "-" ++ decimal (to - 1))) ∷ codes "gap" ∷ map empty_field (value_names fields)

-- ---- the text

-- the lines of an export
abbrev pub csv_lines : List FieldView → List SeenRow → List (List ℕ)
csv_lines fields rows = csv_row (header_fields fields) ∷ map (λ row. csv_row (row_fields fields row)) rows

abbrev pub lines_text : List (List ℕ) → List ℕ
lines_text lines = flat_map (λ line. line) lines

abbrev pub csv_text : List FieldView → List SeenRow → List ℕ
csv_text fields rows = lines_text (csv_lines fields rows)

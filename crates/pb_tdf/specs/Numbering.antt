-- Tables by their numbers and by their names.
use Rattle.std.specs.Prelude.{ℕ, ◌+◌, zero, suc, Bool, List, Option, None, option_map, slice_get, position}
use Rattle.std.specs.Str.{bytes_eq}
use Rattle.pb_base.specs.declared.numbers.TableNo.{TableNo}
use Rattle.pb_tdf.specs.View.{TableView}

-- tables are numbered from 1
abbrev pub numbered : List TableView → ℕ → Option TableView
numbered tables zero = None
numbered tables (suc n) = slice_get tables n

abbrev pub has_name : List ℕ → TableView → Bool
has_name name table = bytes_eq table.name name

abbrev pub table_number : ℕ → TableNo
table_number place = record { 0 = place + 1 }

-- the number of the first table of a name
abbrev pub first_named : List ℕ → List TableView → Option TableNo
first_named name tables = option_map table_number (position (has_name name) tables)

-- Where the tables of a file begin, and where each of them must end.
use Rattle.std.specs.Prelude.{ℕ, ◌+◌, min, nat_lt, if◌then◌else◌, List, length}
use Rattle.pb_tdf.specs.Definition.{Definition, tables_bytes, table_bytes_max, file_bytes_max, tables_max}

-- The first place that a table may not reach which begins at a place, after so many tables: the least of
-- the limits. After the most tables no further one may begin.
abbrev pub table_limit : ℕ → ℕ → ℕ
table_limit before at =
    if nat_lt before tables_max then min file_bytes_max (at + table_bytes_max) else at

-- the place after the version and these tables
abbrev pub after_tables : List Definition → ℕ
after_tables tables = 1 + length (tables_bytes tables)

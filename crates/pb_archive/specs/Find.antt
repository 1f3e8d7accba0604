-- Tables and stations by their names.
use Rattle.std.specs.Prelude.{ℕ, Bool, ◌&&◌, ◌==◌, List, position, Option, None, Some, option_map}
use Rattle.std.specs.Str.{bytes_eq}
use Rattle.pb_base.specs.declared.numbers.TableId.{TableId}
use Rattle.pb_archive.specs.Opened.{OpenArchive}
use Rattle.pb_archive.specs.declared.held.Held.{Held}
use Rattle.pb_archive.specs.declared.plan.StationPlan.{StationPlan}

abbrev pub has_name : List ℕ → StationPlan → Bool
has_name name s = bytes_eq name s.name

-- the table of this name at the station of this place
abbrev pub is_named : ℕ → List ℕ → Held → Bool
is_named station name held = (held.station == station) && bytes_eq held.table.name name

abbrev pub table_id : ℕ → TableId
table_id n = record { 0 = n }

abbrev pub table_at : List ℕ → List Held → Option ℕ → Option TableId
table_at name tables None = None
table_at name tables (Some station) = option_map table_id (position (is_named station name) tables)

-- the first table of a name at the station of a name
abbrev pub first_named : OpenArchive → List ℕ → List ℕ → Option TableId
first_named o station name = table_at name o.tables (position (has_name station) o.plan.stations)

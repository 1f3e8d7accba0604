use Rattle.std.proofs.Common.{◌≡◌, ◌++◌, take, map}
use Rattle.pb_tdf.specs.Definition.{tables_bytes}
use Rattle.pb_script.specs.Station.{definition_of}
use Rattle.pb_script.proofs.file.put_tables.Given as goal

abbrev pub invariant-loop-table : goal.invariant-loop-table
invariant-loop-table l = l.out.items ≡ l.fn.out.items ++ tables_bytes (map definition_of (take l.table-index l.tables))

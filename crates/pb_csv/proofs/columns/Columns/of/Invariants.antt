use Rattle.std.proofs.Common.{take}
use Rattle.pb_csv.specs.CsvText.{value_names}
use Rattle.pb_csv.specs.Inside.{HasNames}
use Rattle.pb_csv.proofs.columns.Columns.of.Given as goal

abbrev pub invariant-loop-at : goal.invariant-loop-at
invariant-loop-at l = HasNames l.columns (value_names (take l.at l.table.fields))

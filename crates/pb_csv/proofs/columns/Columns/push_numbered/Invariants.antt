use Rattle.std.proofs.Common.{ℕ, List, ◌++◌}
use Rattle.pb_csv.specs.CsvText.{numbered_names}
use Rattle.pb_csv.specs.Inside.{HasNames}
use Rattle.pb_csv.proofs.columns.Columns.push_numbered.Given as goal

abbrev pub invariant-loop-number : goal.invariant-loop-number
invariant-loop-number l = (names : List (List ℕ)) → HasNames l.fn.self names → HasNames l.self (names ++ numbered_names l.name l.number)

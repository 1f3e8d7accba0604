use Rattle.std.proofs.Common.{◌≡◌, List, ◌++◌, map, length}
use Rattle.std.specs.List.{AllByRecursion}
use Rattle.csv.specs.Writing.{default_writer, fields_text}
use Rattle.pb_value.specs.Values.{ValueView, values_of}
use Rattle.pb_value.specs.ValueText.{HasText}
use Rattle.pb_csv.specs.CsvText.{value_field}
use Rattle.pb_csv.proofs.line.push_values.Given as goal

abbrev pub invariant-loop-value : goal.invariant-loop-value
invariant-loop-value l = record {
  so_far : (done : List ValueView) × (done ++ l.left ≡ values_of l.table.fields l.bytes) × (l.row.items ≡ l.fn.row.items ++ fields_text default_writer (map value_field done));
  texts : AllByRecursion HasText l.left;
}

abbrev pub decreases-loop-value : goal.decreases-loop-value
decreases-loop-value l = length l.left

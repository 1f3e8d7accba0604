use Rattle.std.proofs.Common.{◌≡◌, drop}
use Rattle.pb_value.specs.Values.{shapes}
use Rattle.pb_value.proofs.record_values.next_run.Given as goal

abbrev pub invariant-loop-at : goal.invariant-loop-at
invariant-loop-at l = shapes (drop l.from l.table.fields) ≡ shapes (drop l.at l.table.fields)

use Rattle.std.proofs.Common.{◌≡◌, ◌++◌}
use Rattle.pb_script.specs.Station.{values_of}
use Rattle.pb_script.proofs.record.put_values.Given as goal

abbrev pub invariant-loop-k : goal.invariant-loop-k
invariant-loop-k l = l.out.items ≡ l.fn.out.items ++ values_of l.kind l.n l.k

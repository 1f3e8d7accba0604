use Rattle.std.proofs.Common.{◌≡◌, ◌≤◌, ◌-◌, length}
use Rattle.std.specs.Io.KnownBytes.{Consumes}
use Rattle.pb_tool.proofs.input.read_whole.Given as goal

abbrev pub invariant-loop-n : goal.invariant-loop-n
invariant-loop-n g l = record {
  consumes : Consumes (g.I.Source.left l.fn.input) (g.I.Source.left l.input) l.bytes.items;
  within : length l.bytes.items ≤ l.limit;
  kept : g.I.Source.read_faults l.input ≡ g.I.Source.read_faults l.fn.input;
}

abbrev pub decreases-loop-n : goal.decreases-loop-n
decreases-loop-n g l = l.limit - length l.bytes.items

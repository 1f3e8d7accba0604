use Rattle.std.proofs.Common.{length, ◌-◌, ◌≤◌, ◌≡◌, take}
use Rattle.std.specs.Io.KnownBytes.{Appends}
use Rattle.pb_io.proofs.sink.put_all.Given as goal

abbrev pub invariant-loop-done : goal.invariant-loop-done
invariant-loop-done g l = record {
  within : l.done ≤ length l.text;
  bytes : Appends (g.O.Sink.written l.fn.out) (g.O.Sink.written l.out) (take l.done l.text);
  kept : g.O.Sink.write_faults l.out ≡ g.O.Sink.write_faults l.fn.out;
}

abbrev pub decreases-loop-done : goal.decreases-loop-done
decreases-loop-done g l = length l.text - l.done

use Rattle.std.proofs.Common.{length, take, ◌-◌, ◌≤◌}
use Rattle.pb_io.specs.Outside.{output_view}
use Rattle.pb_tool.specs.Showing.{TakesIn}
use Rattle.pb_tool.proofs.show.Show.take_all.Given as goal

abbrev pub invariant-loop-done : goal.invariant-loop-done
invariant-loop-done g l = record {
  within : l.done ≤ length l.bytes;
  takes : TakesIn (take l.done l.bytes) l.fn.self l.self (output_view g.O.Sink l.fn.out) (output_view g.O.Sink l.out);
}

abbrev pub decreases-loop-done : goal.decreases-loop-done
decreases-loop-done g l = length l.bytes - l.done

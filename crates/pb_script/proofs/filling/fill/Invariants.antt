use Rattle.std.proofs.Common.{◌≡◌}
use Rattle.pb_script.specs.Inside.{IsFilling}
use Rattle.pb_script.proofs.filling.fill.Given as goal

abbrev pub invariant-loop-place : goal.invariant-loop-place
invariant-loop-place l = record {
  filling : IsFilling l.station l.tables l.place 0;
  device : l.station.device ≡ l.fn.station.device;
}

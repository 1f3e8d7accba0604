use Rattle.std.proofs.Common.{◌≡◌}
use Rattle.pb_script.specs.Inside.{IsFilling}
use Rattle.pb_script.proofs.filling.fill_table.Given as goal

abbrev pub invariant-loop-n : goal.invariant-loop-n
invariant-loop-n l = record {
  filling : IsFilling l.station l.tables l.place l.n;
  device : l.station.device ≡ l.fn.station.device;
}

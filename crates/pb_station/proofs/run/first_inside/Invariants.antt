use Rattle.std.proofs.Common.{◌≡◌, ◌+◌, ◌-◌, ◌≤◌, List, drop}
use Rattle.pb_base.specs.World.{StoredRecord}
use Rattle.pb_bmp5.specs.TrueReply.{skipped}
use Rattle.pb_ring.specs.Ring.{StandsFor, oldest_of}
use Rattle.pb_station.proofs.run.first_inside.Given as goal

abbrev pub invariant-loop-number : goal.invariant-loop-number
invariant-loop-number l = record {
  low : oldest_of l.ring ≤ l.number;
  so_far : (all : List StoredRecord) → StandsFor l.ring all
      → skipped l.span.from l.span.to (drop (oldest_of l.ring) all) ≡ l.number - oldest_of l.ring + skipped l.span.from l.span.to (drop l.number all);
}

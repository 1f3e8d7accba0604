use Rattle.std.proofs.Common.{◌≡◌, ◌+◌, ◌-◌, List, drop}
use Rattle.std.specs.List.{prefix_len}
use Rattle.pb_base.specs.World.{StoredRecord}
use Rattle.pb_bmp5.specs.TrueReply.{is_between}
use Rattle.pb_ring.specs.Ring.{StandsFor}
use Rattle.pb_station.proofs.run.first_outside.Given as goal

abbrev pub invariant-loop-number : goal.invariant-loop-number
invariant-loop-number l =
    (all : List StoredRecord) → StandsFor l.ring all
    → prefix_len (is_between l.span.from l.span.to) (drop l.from all) ≡ l.number - l.from + prefix_len (is_between l.span.from l.span.to) (drop l.number all)

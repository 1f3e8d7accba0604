use Rattle.std.proofs.Common.{◌≡◌, ◌*◌, ◌++◌, List, take, drop}
use Rattle.std.specs.List.{flat_map}
use Rattle.pb_base.specs.World.{StoredRecord}
use Rattle.pb_ring.specs.Ring.{StandsFor}
use Rattle.pb_station.specs.Inside.Commands.{content_part}
use Rattle.pb_station.proofs.copying.copy_each.Given as goal

abbrev pub invariant-loop-k : goal.invariant-loop-k
invariant-loop-k l =
    (all : List StoredRecord) → StandsFor l.ring all
    → l.out ≡ flat_map (content_part l.slice.offset l.slice.len) (take l.k (drop l.records.first all)) ++ drop (l.k * l.slice.len) l.initial.out

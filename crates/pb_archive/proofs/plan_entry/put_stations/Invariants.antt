use Rattle.std.proofs.Common.{◌≡◌, ◌++◌, take}
use Rattle.std.specs.List.{flat_map}
use Rattle.pb_archive.specs.Entry.{station_bytes}
use Rattle.pb_archive.proofs.plan_entry.put_stations.Given as goal

abbrev pub invariant-loop-station : goal.invariant-loop-station
invariant-loop-station l = l.out.items ≡ l.fn.out.items ++ flat_map station_bytes (take l.station-index l.stations)

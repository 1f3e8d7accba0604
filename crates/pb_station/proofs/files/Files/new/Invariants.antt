use Rattle.std.proofs.Common.{◌≡◌, ◌≤◌, vec_len, vec_capacity}
use Rattle.pb_station.specs.Files.{files_max}
use Rattle.pb_station.proofs.files.Files.new.Given as goal

abbrev pub invariant-loop : goal.invariant-loop
invariant-loop l = record {
  len : vec_len l.slots ≡ l.counter;
  room : files_max ≤ vec_capacity l.slots;
}

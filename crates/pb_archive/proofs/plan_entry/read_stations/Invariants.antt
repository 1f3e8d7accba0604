use Rattle.std.proofs.Common.{◌≡◌, length}
use Rattle.pb_archive.specs.Inside.{ReadsSome}
use Rattle.pb_archive.proofs.plan_entry.read_stations.Given as goal

abbrev pub invariant-loop : goal.invariant-loop
invariant-loop l = record {
  some : ReadsSome l.fn.draft l.fn.fields.rest l.draft l.fields.rest;
  count : length l.draft.stations ≡ l.counter;
}

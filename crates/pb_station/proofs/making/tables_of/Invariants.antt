use Rattle.std.proofs.Common.{◌≡◌, ◌≤◌, ◌+◌, length, take, drop, vec_len, vec_capacity}
use Rattle.pb_station.specs.Making.{first_fault, ring_bytes_max}
use Rattle.pb_station.specs.Inside.Tables.{AreMade}
use Rattle.pb_station.proofs.making.tables_of.Given as goal

abbrev pub invariant-loop-place : goal.invariant-loop-place
invariant-loop-place l = record {
  used : l.used ≤ ring_bytes_max;
  len : vec_len l.tables ≡ l.place;
  room : length l.definitions ≤ vec_capacity l.tables;
  made : AreMade (take l.place l.definitions) l.tables.items;
  fault : first_fault 1 0 l.definitions ≡ first_fault (l.place + 1) l.used (drop l.place l.definitions);
}

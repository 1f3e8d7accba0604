-- What the fields of `HeldTable` stand for, and what is always true of them.
use Rattle.std.specs.Prelude.{◌≡◌, ◌≤◌}
use Rattle.pb_station.specs.declared.table.HeldTable.TheInside as table
use Rattle.pb_base.specs.Record.{content_len}
use Rattle.pb_station.specs.State.{KeptTable}
use Rattle.pb_station.specs.Making.{ring_bytes_max}

abbrev pub table_view : table.Inside → KeptTable
table_view t = record { signature = t.signature; layout = t.layout; ring = t.ring }

pub record IsTable (t : table.Inside) : Type 0 where
  pub record_len : t.ring.record_len ≡ t.layout.record_len
  pub short : content_len t.layout ≤ ring_bytes_max

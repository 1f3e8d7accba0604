use Rattle.std.proofs.Common.{◌≡◌, ◌-◌}
use Rattle.std.specs.Option.{ForSome}
use Rattle.pb_archive.specs.Reader.{HasRows}
use Rattle.pb_archive.proofs.row_tests.rest_of.Given as goal

abbrev pub invariant-loop-found : goal.invariant-loop-found
invariant-loop-found g l = record {
  rows : ForSome (g.D.Disk.view l.fn.disk).file (HasRows l.rows);
  same : (g.D.Disk.view l.disk).file ≡ (g.D.Disk.view l.fn.disk).file;
}

abbrev pub decreases-loop-found : goal.decreases-loop-found
decreases-loop-found g l = l.rows.to - l.rows.next

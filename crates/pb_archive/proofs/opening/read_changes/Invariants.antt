use Rattle.std.proofs.Common.{◌≡◌, ◌-◌}
use Rattle.std.specs.Option.{ForSome}
use Rattle.pb_journal.specs.Inside.{Peeks}
use Rattle.pb_archive.specs.Inside.{HasRead}
use Rattle.pb_archive.proofs.opening.read_changes.Given as goal

abbrev pub invariant-loop-fault : goal.invariant-loop-fault
invariant-loop-fault g l = record {
  so_far : ForSome (g.D.Disk.view l.fn.disk).file (HasRead l.register l.entries l.journal.gate);
  peeks : Peeks (g.D.Disk.view l.fn.disk) (g.D.Disk.view l.disk);
  kept : (g.D.Disk.view l.disk).faults ≡ (g.D.Disk.view l.fn.disk).faults;
}

abbrev pub decreases-loop-fault : goal.decreases-loop-fault
decreases-loop-fault g l = l.journal.gate - l.entries.place

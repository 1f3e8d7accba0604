use Rattle.std.proofs.Common.{◌≡◌, ◌-◌, None}
use Rattle.pb_journal.specs.Inside.{Peeks}
use Rattle.pb_archive.specs.Inside.{SameRows, StillAwaits}
use Rattle.pb_archive.proofs.rows.Rows.find.Given as goal

abbrev pub invariant-loop-self : goal.invariant-loop-self
invariant-loop-self g l = record {
  rows : StillAwaits l.fn.self l.self (g.D.Disk.view l.fn.disk).file;
  same : SameRows l.fn.self l.self;
  row : l.fn.self.row ≡ None → l.self.row ≡ None;
  peeks : Peeks (g.D.Disk.view l.fn.disk) (g.D.Disk.view l.disk);
  kept : (g.D.Disk.view l.disk).faults ≡ (g.D.Disk.view l.fn.disk).faults;
}

abbrev pub decreases-loop-self : goal.decreases-loop-self
decreases-loop-self g l = l.self.gate - l.self.entries.place

use Rattle.std.proofs.Common.{◌≡◌, ◌-◌, ◌<◌}
use Rattle.std.specs.Option.{ForSome}
use Rattle.pb_journal.specs.Inside.{Peeks, Walked}
use Rattle.pb_journal.specs.Window.{Shows}
use Rattle.pb_journal.proofs.opening.closing_gate.Given as goal

abbrev pub invariant-loop-size : goal.invariant-loop-size
invariant-loop-size g l = record {
  within : l.place < l.len;
  walked : ForSome (g.D.Disk.view l.fn.disk).file (λ f. Walked f l.place);
  shows : ForSome (g.D.Disk.view l.fn.disk).file (Shows l.window);
  held : l.window.held ≡ l.fn.window.held;
  peeks : Peeks (g.D.Disk.view l.fn.disk) (g.D.Disk.view l.disk);
  kept : (g.D.Disk.view l.disk).faults ≡ (g.D.Disk.view l.fn.disk).faults;
}

abbrev pub decreases-loop-size : goal.decreases-loop-size
decreases-loop-size g l = l.len - l.place

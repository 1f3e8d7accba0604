use Rattle.std.proofs.Common.{◌-◌}
use Rattle.std.specs.Option.{ForSome}
use Rattle.pb_journal.specs.Reading.{HasAhead}
use Rattle.pb_journal.proofs.tests.listed.Given as goal

abbrev pub invariant-loop-all : goal.invariant-loop-all
invariant-loop-all g l = ForSome (g.D.Disk.view l.disk).file (HasAhead l.entries l.journal.gate)

abbrev pub decreases-loop-all : goal.decreases-loop-all
decreases-loop-all g l = l.journal.gate - l.entries.place

use Rattle.std.proofs.Common.{false, ◌≡◌}
use Rattle.pb_archive.specs.Opened.{IsOpen}
use Rattle.pb_archive.specs.Refusals.{NeedsOpening}
use Rattle.pb_archive.proofs.writing_tests.run.Given as goal

abbrev pub invariant-loop-at : goal.invariant-loop-at
invariant-loop-at g l =
    (goal.iterator-loop-at g).can_next l.at-iterator ×
    (goal.iterator-loop-at g).is_finite l.at-iterator ×
    (NeedsOpening l.archive false → IsOpen l.archive (g.D.Disk.view l.disk))

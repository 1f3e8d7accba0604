use Rattle.std.proofs.Common.{length}
use Rattle.pb_archive.specs.Inside.{ReadsLines}
use Rattle.pb_archive.proofs.plan_text.read_stations.Given as goal

abbrev pub invariant-loop-rest : goal.invariant-loop-rest
invariant-loop-rest l = ReadsLines l.fn.draft l.fn.text l.draft l.rest l.line

abbrev pub decreases-loop-rest : goal.decreases-loop-rest
decreases-loop-rest l = length l.rest

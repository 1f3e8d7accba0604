use Rattle.std.proofs.Common.{length}
use Rattle.pb_tdf.specs.Inside.Passing.{TablesSoFar}
use Rattle.pb_tdf.proofs.definitions.Definitions.read_whole.Given as goal

abbrev pub invariant-loop-items : goal.invariant-loop-items
invariant-loop-items l = TablesSoFar l.fn.bytes l.items.left l.tables.items

abbrev pub decreases-loop-items : goal.decreases-loop-items
decreases-loop-items l = length l.items.left.rest

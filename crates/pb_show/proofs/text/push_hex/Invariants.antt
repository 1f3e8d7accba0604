use Rattle.std.proofs.Common.{length}
use Rattle.pb_io.specs.Page.{printing}
use Rattle.pb_value.specs.Hex.{hex}
use Rattle.pb_show.proofs.SpelledLemmas.{Spelled}
use Rattle.pb_show.proofs.text.push_hex.Given as goal

abbrev pub invariant-loop-left : goal.invariant-loop-left
invariant-loop-left g l = Spelled hex l.bytes l.left (printing g.O.Sink l.fn.page l.fn.out) (printing g.O.Sink l.page l.out)

abbrev pub decreases-loop-left : goal.decreases-loop-left
decreases-loop-left g l = length l.left

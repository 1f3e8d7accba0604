use Rattle.std.proofs.Common.{length}
use Rattle.std.specs.Prelude.{decimal}
use Rattle.pb_io.specs.Page.{printing}
use Rattle.pb_layout.specs.Lists.{numbers_of}
use Rattle.pb_show.proofs.SpelledLemmas.{Listed}
use Rattle.pb_show.proofs.value.push_numbers.Given as goal

abbrev pub invariant-loop-number : goal.invariant-loop-number
invariant-loop-number g l = Listed decimal (numbers_of l.bytes) l.numbers (printing g.O.Sink l.fn.page l.fn.out) (printing g.O.Sink l.page l.out)

abbrev pub decreases-loop-number : goal.decreases-loop-number
decreases-loop-number g l = length l.numbers

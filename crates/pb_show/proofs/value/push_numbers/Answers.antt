use Rattle.std.proofs.Common.{sym, ◌∙◌, refl}
use Rattle.pb_io.proofs.PageLemmas.{Adds-as}
use Rattle.std.specs.Prelude.{decimal}
use Rattle.pb_show.proofs.SpelledLemmas.{Listed-more, Listed-none, Listed-all}
use Rattle.pb_show.proofs.value.push_numbers.Goals as goal

pub returns-in_default : goal.returns-in_default
returns-in_default g c = Listed-none decimal _ _ _ (sym c.new-numbers.ensures ∙ c.in_default.ensures.steps.0) c.push.ensures

pub loop-number-preserved : goal.loop-number-preserved
loop-number-preserved g c = Listed-more decimal _ c.loop-number.numbers _ c.in-Some-next.number _ _ _ c.loop-number.invariant c.in-Some-next.ensures.steps
    (Adds-as _ _ _ _ (simp c.from-in-Some-next.ensures refl) c.put.ensures)

pub returns : goal.returns
returns g c = Listed-all decimal _ c.loop-number.numbers _ _ c.in_default-next.ensures.steps.0 c.loop-number.invariant

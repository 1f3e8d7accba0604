use Rattle.std.proofs.Common.{◌≡◌, ◌+◌, ◌-◌, ◌%◌, length-set, sym, ap, ◌∙◌, arith}
use Rattle.pb_value.specs.TimeText.{digits}
use Rattle.pb_value.proofs.TimeLemmas.{digits-more, digits-none}
use Rattle.pb_value.proofs.number.digits_into.Goals as goal

pub loop-i-preserved : goal.loop-i-preserved
loop-i-preserved c =
    let i = c.loop-i.i - 1 in
    let back : i + 1 ≡ c.loop-i.i = omega (arith, c.loop-i-test.true) in
    rw back at (digits-more c.loop-i.out i c.loop-i.rest (omega (arith, c.loop-i-test.true, c.loop-i.auto.i, c.loop-i.auto.out)))
    ∙ c.loop-i.invariant
    ∙ ap (λ k. digits k c.args.n) (sym (length-set c.loop-i.out i (48 + c.loop-i.rest % 10)))

pub returns : goal.returns
returns c =
    sym (digits-none c.loop-i.i c.loop-i.rest c.loop-i.out (omega (arith, c.loop-i-test.false)))
    ∙ c.loop-i.invariant
    ∙ ap (λ k. digits k c.args.n) c.loop-i.auto.out

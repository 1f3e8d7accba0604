use Rattle.std.proofs.Common.{ap, ◌∙◌, subst, arith, List, ℕ, IfOk, OnErr}
use Rattle.pb_base.specs.Put.{IsWritten, DoesNotFit}
use Rattle.pb_value.specs.TimeText.{digits}
use Rattle.pb_value.proofs.Fp2Lemmas.{two_1, two_2}
use Rattle.pb_value.proofs.fp2.two_decimals.Goals as goal

pub returns-then-mantissa-ge1000-clause-written : goal.returns-then-mantissa-ge1000-clause-written
returns-then-mantissa-ge1000-clause-written c =
    let is = two_2 c.args.negative c.args.mantissa c.digits.result (c.digits.ensures ∙ ap (digits 4) c.from.ensures) c.if-mantissa-ge1000.true c.requires in
    subst (λ (text : List ℕ). IfOk c.write_signed.result (IsWritten text c.args.out.now c.write_signed.new.out)) is c.write_signed.ensures.written

pub returns-then-mantissa-ge1000-clause-full : goal.returns-then-mantissa-ge1000-clause-full
returns-then-mantissa-ge1000-clause-full c =
    let is = two_2 c.args.negative c.args.mantissa c.digits.result (c.digits.ensures ∙ ap (digits 4) c.from.ensures) c.if-mantissa-ge1000.true c.requires in
    subst (λ (text : List ℕ). OnErr c.write_signed.result (DoesNotFit text c.args.out.now c.write_signed.new.out)) is c.write_signed.ensures.full

pub returns-else-mantissa-ge1000-clause-written : goal.returns-else-mantissa-ge1000-clause-written
returns-else-mantissa-ge1000-clause-written c =
    let is = two_1 c.args.negative c.args.mantissa c.digits.result (c.digits.ensures ∙ ap (digits 4) c.from.ensures) (omega (arith, c.if-mantissa-ge1000.false)) in
    subst (λ (text : List ℕ). IfOk c.write_signed-else-mantissa-ge1000.result (IsWritten text c.args.out.now c.write_signed-else-mantissa-ge1000.new.out)) is c.write_signed-else-mantissa-ge1000.ensures.written

pub returns-else-mantissa-ge1000-clause-full : goal.returns-else-mantissa-ge1000-clause-full
returns-else-mantissa-ge1000-clause-full c =
    let is = two_1 c.args.negative c.args.mantissa c.digits.result (c.digits.ensures ∙ ap (digits 4) c.from.ensures) (omega (arith, c.if-mantissa-ge1000.false)) in
    subst (λ (text : List ℕ). OnErr c.write_signed-else-mantissa-ge1000.result (DoesNotFit text c.args.out.now c.write_signed-else-mantissa-ge1000.new.out)) is c.write_signed-else-mantissa-ge1000.ensures.full

use Rattle.std.proofs.Common.{ap, ◌∙◌, subst, arith, List, ℕ, IfOk, OnErr}
use Rattle.pb_base.specs.Put.{IsWritten, DoesNotFit}
use Rattle.pb_value.specs.TimeText.{digits}
use Rattle.pb_value.proofs.Fp2Lemmas.{one_1, one_2, one_3}
use Rattle.pb_value.proofs.fp2.one_decimal.Goals as goal

pub returns-then-mantissa-ge1000-clause-written : goal.returns-then-mantissa-ge1000-clause-written
returns-then-mantissa-ge1000-clause-written c =
    let is = one_3 c.args.negative c.args.mantissa c.digits.result (c.digits.ensures ∙ ap (digits 4) c.from.ensures) c.if-mantissa-ge1000.true c.requires in
    subst (λ (text : List ℕ). IfOk c.write_signed.result (IsWritten text c.args.out.now c.write_signed.new.out)) is c.write_signed.ensures.written

pub returns-then-mantissa-ge1000-clause-full : goal.returns-then-mantissa-ge1000-clause-full
returns-then-mantissa-ge1000-clause-full c =
    let is = one_3 c.args.negative c.args.mantissa c.digits.result (c.digits.ensures ∙ ap (digits 4) c.from.ensures) c.if-mantissa-ge1000.true c.requires in
    subst (λ (text : List ℕ). OnErr c.write_signed.result (DoesNotFit text c.args.out.now c.write_signed.new.out)) is c.write_signed.ensures.full

pub returns-then-mantissa-ge100-clause-written : goal.returns-then-mantissa-ge100-clause-written
returns-then-mantissa-ge100-clause-written c =
    let is = one_2 c.args.negative c.args.mantissa c.digits.result (c.digits.ensures ∙ ap (digits 4) c.from.ensures) c.if-mantissa-ge100.true (omega (arith, c.if-mantissa-ge1000.false)) in
    subst (λ (text : List ℕ). IfOk c.write_signed-then-mantissa-ge100.result (IsWritten text c.args.out.now c.write_signed-then-mantissa-ge100.new.out)) is c.write_signed-then-mantissa-ge100.ensures.written

pub returns-then-mantissa-ge100-clause-full : goal.returns-then-mantissa-ge100-clause-full
returns-then-mantissa-ge100-clause-full c =
    let is = one_2 c.args.negative c.args.mantissa c.digits.result (c.digits.ensures ∙ ap (digits 4) c.from.ensures) c.if-mantissa-ge100.true (omega (arith, c.if-mantissa-ge1000.false)) in
    subst (λ (text : List ℕ). OnErr c.write_signed-then-mantissa-ge100.result (DoesNotFit text c.args.out.now c.write_signed-then-mantissa-ge100.new.out)) is c.write_signed-then-mantissa-ge100.ensures.full

pub returns-else-mantissa-ge100-clause-written : goal.returns-else-mantissa-ge100-clause-written
returns-else-mantissa-ge100-clause-written c =
    let is = one_1 c.args.negative c.args.mantissa c.digits.result (c.digits.ensures ∙ ap (digits 4) c.from.ensures) (omega (arith, c.if-mantissa-ge100.false)) in
    subst (λ (text : List ℕ). IfOk c.write_signed-else-mantissa-ge100.result (IsWritten text c.args.out.now c.write_signed-else-mantissa-ge100.new.out)) is c.write_signed-else-mantissa-ge100.ensures.written

pub returns-else-mantissa-ge100-clause-full : goal.returns-else-mantissa-ge100-clause-full
returns-else-mantissa-ge100-clause-full c =
    let is = one_1 c.args.negative c.args.mantissa c.digits.result (c.digits.ensures ∙ ap (digits 4) c.from.ensures) (omega (arith, c.if-mantissa-ge100.false)) in
    subst (λ (text : List ℕ). OnErr c.write_signed-else-mantissa-ge100.result (DoesNotFit text c.args.out.now c.write_signed-else-mantissa-ge100.new.out)) is c.write_signed-else-mantissa-ge100.ensures.full

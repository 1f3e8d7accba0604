use Rattle.std.proofs.Common.{ap, ◌∙◌, subst, List, ℕ, IfOk, OnErr}
use Rattle.pb_base.specs.Put.{IsWritten, DoesNotFit}
use Rattle.pb_value.specs.TimeText.{digits}
use Rattle.pb_value.proofs.Fp2Lemmas.{three_1}
use Rattle.pb_value.proofs.fp2.three_decimals.Goals as goal

pub returns-clause-written : goal.returns-clause-written
returns-clause-written c =
    let is = three_1 c.args.negative c.args.mantissa c.digits.result (c.digits.ensures ∙ ap (digits 4) c.from.ensures) c.requires in
    subst (λ (text : List ℕ). IfOk c.write_signed.result (IsWritten text c.args.out.now c.write_signed.new.out)) is c.write_signed.ensures.written

pub returns-clause-full : goal.returns-clause-full
returns-clause-full c =
    let is = three_1 c.args.negative c.args.mantissa c.digits.result (c.digits.ensures ∙ ap (digits 4) c.from.ensures) c.requires in
    subst (λ (text : List ℕ). OnErr c.write_signed.result (DoesNotFit text c.args.out.now c.write_signed.new.out)) is c.write_signed.ensures.full

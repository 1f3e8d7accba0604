use Rattle.std.proofs.Common.{arith}
use Rattle.std.proofs.lemmas.Bool.{false≢true}
use Rattle.pb_trans.proofs.JudgingLemmas.{first_byte}
use Rattle.pb_trans.proofs.judging.is_answer.Goals as goal

pub returns-then-asked-ge128 : goal.returns-then-asked-ge128
returns-then-asked-ge128 c = (
  λ t. absurd (false≢true t),
  λ a. absurd (omega (arith, first_byte _ _ c.args.message.now (omega (arith, c.type_inv.message 0)) a.begins, c.if-asked-ge128.true)),
)

use Rattle.std.proofs.Common.{Ok, ap, ◌∙◌}
use Rattle.std.proofs.lemmas.Bool.{false≢true}
use Rattle.pb_ctrl.specs.Message.{Failure, message_of}
use Rattle.pb_trans.proofs.JudgingLemmas.{not_both, one_failure}
use Rattle.pb_trans.proofs.judging.failure.Goals as goal

pub returns-in-Err : goal.returns-in-Err
returns-in-Err c = λ code f. not_both (c.in-Err.ensures.only (Failure f.tran f.keys) f.reads)

pub returns-else-is_of_request : goal.returns-else-is_of_request
returns-else-is_of_request c = λ code f.
    false≢true (c.if-is_of_request.ensures.1 (one_failure c.args.asked.now f.tran _ f.keys _ (c.in-Ok-Failure.ensures.only (Failure f.tran f.keys) f.reads ∙ ap (λ m. Ok (message_of m)) c.in-Ok-Failure.field-0-is) f.names))

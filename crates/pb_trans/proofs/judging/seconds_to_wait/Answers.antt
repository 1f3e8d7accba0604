use Rattle.std.proofs.Common.{Ok, ap, sym, ◌∙◌}
use Rattle.pb_bmp5.specs.Message.{Wait, message_of}
use Rattle.pb_trans.proofs.JudgingLemmas.{not_both, wait_tran, wait_kind}
use Rattle.pb_trans.proofs.judging.seconds_to_wait.Goals as goal
use Rattle.pb_trans.proofs.judging.seconds_to_wait.Goals.{else-tran-asked-via-then-tran-asked+else-kind-asked, else-tran-asked-via-else-tran-asked}

pub returns-in-Err : goal.returns-in-Err
returns-in-Err c = λ seconds w. not_both (c.in-Err.ensures.only (Wait c.args.asked.now.tran c.args.asked.now.kind seconds) w.reads)

pub returns-else-tran-asked : goal.returns-else-tran-asked
returns-else-tran-asked c = λ seconds w.
    let read = c.in-Ok-Wait.ensures.only (Wait c.args.asked.now.tran c.args.asked.now.kind seconds) w.reads ∙ ap (λ m. Ok (message_of m)) c.in-Ok-Wait.field-0-is in
    elim c.else-tran-asked.branch [
      | else-tran-asked-via-then-tran-asked+else-kind-asked w ↦ w.if-kind-asked.false (sym (wait_kind _ _ _ _ _ _ read))
      | else-tran-asked-via-else-tran-asked w ↦ w.if-tran-asked.false (sym (wait_tran _ _ _ _ _ _ read))
    ]

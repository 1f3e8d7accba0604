use Rattle.std.proofs.Common.{◌≡◌, Result, Ok, Err}
use Rattle.pb_ctrl.specs.Message.{HelloReply}
use Rattle.pb_tool.proofs.ping.questions.hello_reply.Goals as goal

ok_err : {T E : Type 0} {t : T} {e : E} → ◌≡◌ {A = Result T E} (Ok t) (Err e) → ⊥
ok_err {T} {E} {t} {e} is = cc

pub returns-in-Err : goal.returns-in-Err
returns-in-Err c = λ r reads. ok_err (c.in-Err.ensures.only (HelloReply 1 r.router r.metric r.verify) reads)

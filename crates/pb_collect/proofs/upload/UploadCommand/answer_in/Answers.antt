use Rattle.std.proofs.Common.{◌≡◌, Result, Ok, Err, subst}
use Rattle.pb_bmp5.specs.Message.{MessageReads, UploadReply, message_of}
use Rattle.pb_bmp5.specs.declared.message.Bmp5.{Bmp5}
use Rattle.pb_collect.proofs.UploadLemmas.{no_reply, other_place, other_tran}
use Rattle.pb_collect.proofs.upload.UploadCommand.answer_in.Goals as goal

ok_err : {T E : Type 0} {t : T} {e : E} → ◌≡◌ {A = Result T E} (Ok t) (Err e) → ⊥
ok_err {T} {E} {t} {e} is = cc

pub returns-then-tran-self : goal.returns-then-tran-self
returns-then-tran-self c =
    let r = c.in-Ok-UploadReply in
    other_tran c.written_message_is_read.ensures.one_message c.args.self.now r.tran r.resp r.offset r.field-0-3.now c.args.message.now (subst (λ (b : Bmp5). MessageReads (message_of b) c.args.message.now) r.field-0-is r.ensures.found) c.if-tran-self.true

pub returns-else-offset-self : goal.returns-else-offset-self
returns-else-offset-self c =
    let r = c.in-Ok-UploadReply in
    other_place c.written_message_is_read.ensures.one_message c.args.self.now r.tran r.resp r.offset r.field-0-3.now c.args.message.now (subst (λ (b : Bmp5). MessageReads (message_of b) c.args.message.now) r.field-0-is r.ensures.found) c.if-resp-ne0.false c.if-offset-self.false

pub returns-in-Err : goal.returns-in-Err
returns-in-Err c = no_reply c.args.self.now c.args.message.now (λ resp offset bytes reads. ok_err (c.in-Err.ensures.only (UploadReply c.args.self.now.tran resp offset bytes) reads))

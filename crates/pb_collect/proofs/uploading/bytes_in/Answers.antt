use Rattle.std.proofs.Common.{◌≡◌, ◌≤◌, ℕ, List, Result, Ok, Err, length, subst, sym}
use Rattle.pb_bmp5.specs.Message.{Message, UploadReply, message_of}
use Rattle.pb_base.specs.declared.message.MessageFault.{MessageFault}
use Rattle.pb_bmp5.specs.declared.message.Bmp5.{Bmp5}
use Rattle.pb_collect.proofs.UploadLemmas.{reply_short}
use Rattle.pb_collect.proofs.uploading.bytes_in.Goals as goal

ok_err : {T E : Type 0} {t : T} {e : E} → ◌≡◌ {A = Result T E} (Ok t) (Err e) → ⊥
ok_err {T} {E} {t} {e} is = cc

pub unreachable-requires-in-Err : goal.unreachable-requires-in-Err
unreachable-requires-in-Err c = ok_err (c.in-Err.ensures.only (UploadReply c.args.command.now.tran 0 c.args.command.now.offset c.requires.0) c.requires.1)

same_bytes : (a b x y p q : ℕ) (f g : List ℕ) → ◌≡◌ {A = Result Message MessageFault} (Ok (UploadReply a x p f)) (Ok (UploadReply b y q g)) → g ≡ f
same_bytes a b x y p q f g is = cc

pub returns-clause-few : goal.returns-clause-few
returns-clause-few c =
    let r = c.in-Ok-UploadReply in
    let a = c.args.command.now in
    let m : Message = UploadReply a.tran 0 a.offset c.requires.0 in
    let is = subst (λ (b : Bmp5). ◌≡◌ {A = Result Message MessageFault} (Ok m) (Ok (message_of b))) r.field-0-is (r.ensures.only m c.requires.1) in
    subst (λ (l : List ℕ). length l ≤ length c.args.message.now) (sym (same_bytes a.tran r.field-0-0 0 r.field-0-1 a.offset r.field-0-2 c.requires.0 r.bytes.now is))
    (reply_short a.tran a.offset c.requires.0 c.args.message.now c.requires.1)

use Rattle.std.proofs.Common.{[], Some, None, refl, sym, ap, ◌∙◌}
use Rattle.pb_bmp5.specs.Message as bmp5
use Rattle.pb_station.specs.Files.{uploaded}
use Rattle.pb_station.specs.Inside.Commands.{upload_keys}
use Rattle.pb_station.proofs.AnsweredLemmas.{denied-answered, upload-answered, replied}
use Rattle.pb_station.proofs.device.Device.answer_upload.Goals as goal

pub returns-then-is_wrong-clause-answered : goal.returns-then-is_wrong-clause-answered
returns-then-is_wrong-clause-answered c =
    let device = c.args.self.now in
    let m = bmp5.UploadReply c.args.tran 1 0 [] in
    denied-answered device c.args.code _ m c.args.header.now c.args.out.now c.reply_bmp5.new.out c.reply_bmp5.result (sym c.is_wrong.ensures ∙ c.if-is_wrong.true)
    (replied c.address.result device.address c.args.header.now _ m c.args.out.now c.reply_bmp5.new.out c.reply_bmp5.result c.address.ensures c.upload_refusal.ensures.says c.reply_bmp5.ensures.answered)

pub returns-in_default-clause-answered : goal.returns-in_default-clause-answered
returns-in_default-clause-answered c =
    let device = c.args.self.now in
    let m = bmp5.UploadReply c.args.tran 13 0 [] in
    upload-answered device c.args.tran (upload_keys c.args.code c.args.wanted) None c.args.header.now c.args.out.now c.reply_bmp5-in_default.new.out c.reply_bmp5-in_default.result (sym c.is_wrong.ensures ∙ c.if-is_wrong.false) (sym c.in_default.ensures)
    (replied c.address-in_default.result device.address c.args.header.now _ m c.args.out.now c.reply_bmp5-in_default.new.out c.reply_bmp5-in_default.result c.address-in_default.ensures c.upload_refusal-in_default.ensures.says c.reply_bmp5-in_default.ensures.answered)

pub returns-clause-answered : goal.returns-clause-answered
returns-clause-answered c =
    let device = c.args.self.now in
    let w = c.args.wanted in
    let keys = upload_keys c.args.code w in
    let m = bmp5.UploadReply c.args.tran 0 w.offset c.part_of.result.now in
    let n = bmp5.UploadReply c.args.tran 0 w.offset (uploaded c.in-Some.bytes.now keys) in
    upload-answered device c.args.tran keys (Some c.in-Some.bytes.now) c.args.header.now c.args.out.now c.reply_bmp5-2.new.out c.reply_bmp5-2.result (sym c.is_wrong.ensures ∙ c.if-is_wrong.false) (sym c.in-Some.ensures)
    (replied c.address-2.result device.address c.args.header.now m n c.args.out.now c.reply_bmp5-2.new.out c.reply_bmp5-2.result c.address-2.ensures (ap (bmp5.UploadReply c.args.tran 0 w.offset) c.part_of.ensures) c.reply_bmp5-2.ensures.answered)

use Rattle.std.proofs.Common.{ℕ, refl, sym, ap, ◌∙◌}
use Rattle.pb_bmp5.specs.Message as bmp5
use Rattle.pb_station.specs.State.{DeviceState}
use Rattle.pb_station.specs.Answer.{download_reply}
use Rattle.pb_station.specs.Inside.Commands.{download_keys}
use Rattle.pb_station.proofs.AnsweredLemmas.{denied-answered, download-answered, replied}
use Rattle.pb_station.proofs.device.Device.answer_download.Goals as goal

pub returns-then-is_wrong-clause-answered : goal.returns-then-is_wrong-clause-answered
returns-then-is_wrong-clause-answered c =
    let device = c.args.self.now in
    let m = bmp5.DownloadReply c.args.tran 1 0 in
    denied-answered device c.args.code _ m c.args.header.now c.args.out.now c.reply_bmp5.new.out c.reply_bmp5.result (sym c.is_wrong.ensures ∙ c.if-is_wrong.true)
    (replied c.address.result device.address c.args.header.now _ m c.args.out.now c.reply_bmp5.new.out c.reply_bmp5.result c.address.ensures c.download_refusal.ensures.says c.reply_bmp5.ensures.answered)

pub returns-clause-answered : goal.returns-clause-answered
returns-clause-answered c =
    let device = c.args.self.now in
    let keys = download_keys c.args.code c.args.part in
    let m = bmp5.DownloadReply c.args.tran 0 c.args.part.offset in
    let here = c.address-2.ensures ∙ ap (λ (d : DeviceState). d.address) c.download-resp.ensures.0 in
    download-answered device c.download-resp.new.self c.args.tran keys m c.args.header.now c.args.out.now c.reply_bmp5-2.new.out c.reply_bmp5-2.result (sym c.is_wrong.ensures ∙ c.if-is_wrong.false)
    c.download-resp.ensures.0 (ap (λ (r : ℕ). download_reply c.args.tran r c.args.part.offset) (sym c.download-resp.ensures.1 ∙ c.if-resp-ne0.false))
    (replied c.address-2.result device.address c.args.header.now m m c.args.out.now c.reply_bmp5-2.new.out c.reply_bmp5-2.result here refl c.reply_bmp5-2.ensures.answered)

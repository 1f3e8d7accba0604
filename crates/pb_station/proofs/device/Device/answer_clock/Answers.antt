use Rattle.std.proofs.Common.{sym, ap, ◌∙◌}
use Rattle.pb_bmp5.specs.Message as bmp5
use Rattle.pb_station.specs.State.{DeviceState}
use Rattle.pb_station.proofs.AnsweredLemmas.{denied-answered, unadjusted-answered, replied}
use Rattle.pb_station.proofs.device.Device.answer_clock.Goals as goal

pub returns-then-is_wrong-clause-answered : goal.returns-then-is_wrong-clause-answered
returns-then-is_wrong-clause-answered c =
    let device = c.args.self.now in
    let m = bmp5.ClockReply c.args.tran 1 bmp5.no_time in
    denied-answered device c.args.code _ m c.args.header.now c.args.out.now c.reply_bmp5.new.out c.reply_bmp5.result (sym c.is_wrong.ensures ∙ c.if-is_wrong.true)
    (replied c.address.result device.address c.args.header.now _ m c.args.out.now c.reply_bmp5.new.out c.reply_bmp5.result c.address.ensures c.clock_refusal.ensures.says c.reply_bmp5.ensures.answered)

pub returns-in_default-clause-answered : goal.returns-in_default-clause-answered
returns-in_default-clause-answered c =
    let device = c.args.self.now in
    let m = bmp5.ClockReply c.args.tran 2 bmp5.no_time in
    unadjusted-answered device c.adjust_clock.new.self c.args.tran c.args.code c.args.adjust c.args.header.now c.args.out.now c.reply_bmp5-in_default.new.out c.reply_bmp5-in_default.result
    (sym c.is_wrong.ensures ∙ c.if-is_wrong.false) c.in_default.ensures.0 c.in_default.ensures.1
    (replied c.address-in_default.result device.address c.args.header.now _ m c.args.out.now c.reply_bmp5-in_default.new.out c.reply_bmp5-in_default.result (c.address-in_default.ensures ∙ ap (λ (d : DeviceState). d.address) c.in_default.ensures.1) c.clock_refusal-in_default.ensures.says c.reply_bmp5-in_default.ensures.answered)

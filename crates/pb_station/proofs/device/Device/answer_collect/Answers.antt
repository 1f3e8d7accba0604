use Rattle.std.proofs.Common.{[], take, refl, sym, ◌∙◌}
use Rattle.pb_bmp5.specs.Message as bmp5
use Rattle.pb_station.specs.Inside.Commands.{collect_keys}
use Rattle.pb_station.proofs.AnsweredLemmas.{ok-collected, collect-answered, denied-answered, replied}
use Rattle.pb_station.proofs.device.Device.answer_collect.Goals as goal

pub returns-then-is_wrong-clause-answered : goal.returns-then-is_wrong-clause-answered
returns-then-is_wrong-clause-answered c = λ all stand.
    let device = c.args.self.now in
    let m = bmp5.CollectReply c.args.tran 1 [] in
    denied-answered device c.args.code _ m c.args.header.now c.args.out.now c.reply_bmp5.new.out c.reply_bmp5.result (sym c.is_wrong.ensures ∙ c.if-is_wrong.true)
    (replied c.address.result device.address c.args.header.now _ m c.args.out.now c.reply_bmp5.new.out c.reply_bmp5.result c.address.ensures c.collect_refusal.ensures.says c.reply_bmp5.ensures.answered)

pub returns-in-Ok-clause-answered : goal.returns-in-Ok-clause-answered
returns-in-Ok-clause-answered c = λ all stand.
    let device = c.args.self.now in
    let keys = collect_keys c.args.code c.args.asked in
    let m = bmp5.CollectReply c.args.tran 0 (take c.in-Ok.len c.collect.new.body) in
    let e = ok-collected _ c.args.tran c.args.asked.table.0 _ _ c.in-Ok.len (c.in-Ok.ensures.collected all stand c.args.code) in
    collect-answered (record { device = device; tables = all }) c.args.tran keys c.args.header.now c.args.out.now c.reply_bmp5-in-Ok.new.out c.reply_bmp5-in-Ok.result m (sym c.is_wrong.ensures ∙ c.if-is_wrong.false) e
    (replied c.address-in-Ok.result device.address c.args.header.now m m c.args.out.now c.reply_bmp5-in-Ok.new.out c.reply_bmp5-in-Ok.result c.address-in-Ok.ensures refl c.reply_bmp5-in-Ok.ensures.answered)

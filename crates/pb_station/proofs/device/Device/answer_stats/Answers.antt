use Rattle.std.proofs.Common.{ℕ, ◌<◌, List, sym, subst, ◌∙◌, arith}
use Rattle.std.specs.List.{All}
use Rattle.pb_bmp5.specs.Message as bmp5
use Rattle.pb_station.proofs.AnsweredLemmas.{denied-answered, replied}
use Rattle.pb_station.proofs.ReplyLemmas.{valid-stats, positive-decimal}
use Rattle.pb_station.proofs.device.Device.answer_stats.Goals as goal

pub reply_bmp5-requires-2-clause-valid : goal.reply_bmp5-requires-2-clause-valid
reply_bmp5-requires-2-clause-valid c =
    let digits = positive-decimal c.get.result (omega arith) in
    valid-stats c.args.tran c.as_bytes.result.now c.definitions_signature.result (subst (λ (x : List ℕ). All (λ byte. 0 < byte) x) (sym (c.as_bytes.ensures.value ∙ c.format.ensures.text)) digits)

pub returns-then-is_wrong-clause-answered : goal.returns-then-is_wrong-clause-answered
returns-then-is_wrong-clause-answered c =
    let device = c.args.self.now in
    let m = bmp5.StatsReply c.args.tran 1 bmp5.no_stats in
    denied-answered device c.args.code _ m c.args.header.now c.args.out.now c.reply_bmp5.new.out c.reply_bmp5.result (sym c.is_wrong.ensures ∙ c.if-is_wrong.true)
    (replied c.address.result device.address c.args.header.now _ m c.args.out.now c.reply_bmp5.new.out c.reply_bmp5.result c.address.ensures c.stats_refusal.ensures.says c.reply_bmp5.ensures.answered)

use Rattle.std.proofs.Common.{rules}
use Rattle.pb_ask.proofs.JudgeLemmas.{ends_content, heeds_content}
use Rattle.pb_ask.proofs.judging.judge_content.Goals as goal

pub returns-clause-ends : goal.returns-clause-ends
returns-clause-ends g c =
    ends_content (g.Q.Question.wanted c.args.question.now) c.in-Ok-Full.header c.in-Ok-Full.message.now c.args.content.now c.judge_packet.result (search rules) c.judge_packet.ensures.ends

pub returns-clause-heeds : goal.returns-clause-heeds
returns-clause-heeds g c =
    heeds_content c.args.exchange.now c.judge_packet.new.exchange c.in-Ok-Full.header c.in-Ok-Full.message.now c.args.content.now (search rules) c.judge_packet.ensures.hears

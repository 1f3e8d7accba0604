use Rattle.std.proofs.Common.{rules, subst}
use Rattle.pb_trans.specs.declared.asked.Asked.{Asked}
use Rattle.pb_trans.specs.Asking.{Means}
use Rattle.pb_ask.proofs.JudgeLemmas.{none_ends}
use Rattle.pb_ask.proofs.judging.judge_packet.Goals as goal

pub returns-in_default : goal.returns-in_default
returns-in_default g c = record {
  ends = none_ends (g.Q.Question.wanted c.args.question.now) c.args.header.now c.args.message.now c.hear.result
      (subst (λ (a : Asked). Means a c.args.header.now c.args.message.now c.hear.result) c.requires c.hear.ensures.means) (search rules) (search rules);
  hears = c.hear.ensures.hears;
}

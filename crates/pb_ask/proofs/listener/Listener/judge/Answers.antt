use Rattle.std.proofs.Common.{arith, rules, None, Some}
use Rattle.pb_ask.specs.Wanted.{EndsBy}
use Rattle.pb_ask.proofs.JudgeLemmas.{Judged-start, Judged-after, judged_as, left_over}
use Rattle.pb_ask.proofs.listener.Listener.judge.Goals as goal

pub returns-then-is_empty-clause-judged : goal.returns-then-is_empty-clause-judged
returns-then-is_empty-clause-judged g c = Judged-start (EndsBy (g.Q.Question.wanted c.args.question.now)) c.args.self.now c.args.exchange.now

pub loop-self-init : goal.loop-self-init
loop-self-init g c = record {
  judged = Judged-start (EndsBy (g.Q.Question.wanted c.args.question.now)) c.args.self.now c.args.exchange.now;
  count = search rules;
}

pub returns-in-Some-clause-judged : goal.returns-in-Some-clause-judged
returns-in-Some-clause-judged g c =
    let P = EndsBy (g.Q.Question.wanted c.args.question.now) in
    Judged-after P c.args.self.now c.loop-self.self c.judge_run.new.self c.args.exchange.now c.loop-self.exchange c.judge_run.new.exchange (Some c.in-Some.ended) c.loop-self.invariant.judged (judged_as P c.in-Some.is c.judge_run.ensures.judged)

pub loop-self-preserved : goal.loop-self-preserved
loop-self-preserved g c =
    let P = EndsBy (g.Q.Question.wanted c.args.question.now) in
    let one = judged_as P c.in_default.is c.judge_run.ensures.judged in
    record {
      judged = Judged-after P c.args.self.now c.loop-self.self c.judge_run.new.self c.args.exchange.now c.loop-self.exchange c.judge_run.new.exchange None c.loop-self.invariant.judged one;
      count = omega (arith, left_over P c.loop-self.self c.judge_run.new.self c.loop-self.exchange c.judge_run.new.exchange None one, c.loop-self.invariant.count);
    }

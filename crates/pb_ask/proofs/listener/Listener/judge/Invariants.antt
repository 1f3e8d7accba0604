use Rattle.std.proofs.Common.{◌+◌, ◌^◌, ◌≤◌, None, length}
use Rattle.pb_ask.specs.Wanted.{EndsBy}
use Rattle.pb_ask.specs.Inside.{Judged}
use Rattle.pb_ask.proofs.listener.Listener.judge.Given as goal

abbrev pub invariant-loop-self : goal.invariant-loop-self
invariant-loop-self g l = record {
  judged : Judged (EndsBy (g.Q.Question.wanted l.question)) l.fn.self l.fn.exchange None l.self l.exchange;
  count : l.self.ear.count + length l.self.inbox ≤ 2 ^ 62;
}

abbrev pub decreases-loop-self : goal.decreases-loop-self
decreases-loop-self g l = length l.self.inbox

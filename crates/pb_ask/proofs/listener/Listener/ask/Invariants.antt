use Rattle.std.proofs.Common.{◌-◌, ◌≡◌}
use Rattle.pb_ask.specs.Events.{Passes}
use Rattle.pb_ask.proofs.AskLemmas.{Going}
use Rattle.pb_ask.proofs.listener.Listener.ask.Given as goal

abbrev pub invariant-loop-self : goal.invariant-loop-self
invariant-loop-self g l = record {
  so_far : Going (g.Q.Question.wanted l.question) l.fn.limits l.fn.self (g.S.Disk.view l.fn.site).link l.self (g.S.Disk.view l.site).link l.exchange;
  passes : Passes (g.Q.Question.wanted l.question).frame (l.exchange.sent - 1) (g.S.Disk.view l.fn.site) (g.S.Disk.view l.site);
  still : (g.S.Disk.view l.site).link.faults ≡ (g.S.Disk.view l.fn.site).link.faults;
}

abbrev pub decreases-loop-self : goal.decreases-loop-self
decreases-loop-self g l = l.fn.limits.sends - l.exchange.sent

use Rattle.std.proofs.Common.{ℕ, ◌+◌, ◌-◌, ◌*◌, ◌≡◌, List}
use Rattle.pb_ask.specs.Events.{Passes}
use Rattle.pb_ask.proofs.RunLemmas.{Ongoing}
use Rattle.pb_ask.proofs.listener.Listener.listen.Given as goal

abbrev pub invariant-loop-n : goal.invariant-loop-n
invariant-loop-n g l = record {
  so_far : Ongoing (g.Q.Question.wanted l.question) l.fn.self (g.S.Disk.view l.fn.site).link l.fn.exchange l.self (g.S.Disk.view l.site).link l.exchange;
  passes : (frame : List ℕ) → Passes frame 0 (g.S.Disk.view l.fn.site) (g.S.Disk.view l.site);
  still : (g.S.Disk.view l.site).link.faults ≡ (g.S.Disk.view l.fn.site).link.faults;
}

abbrev pub decreases-loop-n : goal.decreases-loop-n
decreases-loop-n g l = (65536 - l.exchange.heard) * 70000 + l.exchange.due

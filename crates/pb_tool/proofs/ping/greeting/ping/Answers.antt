use Rattle.std.proofs.Common.{Result, sym, subst, ◌∙◌}
use Rattle.pb_tool.specs.declared.ping.answer.PingFault.{PingFault}
use Rattle.pb_tool.specs.declared.ping.answer.Pinged.{Pinged}
use Rattle.pb_tool.specs.Ping.{Pinging}
use Rattle.pb_tool.proofs.PingLemmas.{hello_fails, stops_at_hello, asks_clock, stops_at_clock, hello_leaves, clock_leaves}
use Rattle.pb_tool.proofs.ping.greeting.ping.Goals as goal

pub returns-in-Err-clause-pings : goal.returns-in-Err-clause-pings
returns-in-Err-clause-pings g c = stops_at_hello c.args.me c.args.node c.new-listener.result (g.S.Disk.view c.args.site.now).link c.new-listener.ensures.nothing c.new-listener.ensures.stands c.ask.new.self _ c.in-Err.ensures.stops

pub returns-in-Err-clause-leaves : goal.returns-in-Err-clause-leaves
returns-in-Err-clause-leaves g c = hello_leaves c.args.me c.args.node _ _ c.ask.ensures.passes

pub returns-in-Err-answer_of-clause-pings : goal.returns-in-Err-answer_of-clause-pings
returns-in-Err-answer_of-clause-pings g c =
    hello_fails c.args.me c.args.node c.new-listener.result (g.S.Disk.view c.args.site.now).link c.new-listener.ensures.nothing c.new-listener.ensures.stands
    c.in-Ok.greeted c.in-Err-answer_of.cause c.ask.new.self _ (sym c.answer_of.ensures ∙ c.in-Err-answer_of.is) c.in-Ok.ensures.asks

pub returns-in-Err-answer_of-clause-leaves : goal.returns-in-Err-answer_of-clause-leaves
returns-in-Err-answer_of-clause-leaves g c = hello_leaves c.args.me c.args.node _ _ c.ask.ensures.passes

pub returns-in-Ok-ask-clause-pings : goal.returns-in-Ok-ask-clause-pings
returns-in-Ok-ask-clause-pings g c =
    subst (λ (r : Result Pinged PingFault). Pinging c.args.me c.args.node (g.S.Disk.view c.args.site.now).link (g.S.Disk.view c.ask-2.new.site).link r) (sym c.conclude.ensures)
    (asks_clock c.args.me c.args.node c.new-listener.result (g.S.Disk.view c.args.site.now).link c.new-listener.ensures.nothing c.new-listener.ensures.stands c.in-Ok.greeted c.in-Ok-answer_of.greeting c.ask.new.self (g.S.Disk.view c.ask.new.site).link (sym c.answer_of.ensures ∙ c.in-Ok-answer_of.is) c.in-Ok.ensures.asks c.ask-2.new.self (g.S.Disk.view c.ask-2.new.site).link c.in-Ok-ask.timed c.in-Ok-ask.ensures.asks)

pub returns-in-Ok-ask-clause-leaves : goal.returns-in-Ok-ask-clause-leaves
returns-in-Ok-ask-clause-leaves g c = clock_leaves c.args.me c.args.node _ _ _ c.ask.ensures.passes c.ask-2.ensures.passes

pub returns-in-Err-ask-clause-pings : goal.returns-in-Err-ask-clause-pings
returns-in-Err-ask-clause-pings g c =
    stops_at_clock c.args.me c.args.node c.new-listener.result (g.S.Disk.view c.args.site.now).link c.new-listener.ensures.nothing c.new-listener.ensures.stands c.in-Ok.greeted c.in-Ok-answer_of.greeting c.ask.new.self (g.S.Disk.view c.ask.new.site).link (sym c.answer_of.ensures ∙ c.in-Ok-answer_of.is) c.in-Ok.ensures.asks c.ask-2.new.self (g.S.Disk.view c.ask-2.new.site).link c.in-Err-ask.ensures.stops

pub returns-in-Err-ask-clause-leaves : goal.returns-in-Err-ask-clause-leaves
returns-in-Err-ask-clause-leaves g c = clock_leaves c.args.me c.args.node _ _ _ c.ask.ensures.passes c.ask-2.ensures.passes

use Rattle.std.proofs.Common.{ℕ, subst}
use Rattle.pb_tool.specs.declared.status.Status.{Status}
use Rattle.pb_tool.specs.Closing.{Closes}
use Rattle.pb_tool.specs.PingText.{ping_text}
use Rattle.pb_tool.proofs.ClosingLemmas.{Closes-finished}
use Rattle.pb_tool.proofs.ping.lines.print.Goals as goal

pub returns-clause-ran : goal.returns-clause-ran
returns-clause-ran g c =
    let answer = c.ping-answer.result in
    let closes = Closes-finished _ _ (ping_text c.get.result answer) c.new-page.result c.push_answer.new.page c.finish.new.page _ _ _ c.new-page.ensures c.push_answer.ensures
    c.finish.ensures.adds c.finish.ensures.closed in
    record {
      answer = answer;
      pinging = c.ping-answer.ensures.pings;
      printed = subst (λ (s : Status). Closes s c.finish.result (ping_text c.args.node answer) (g.O.Sink.written c.args.out.now) (g.O.Sink.written c.finish.new.out)) c.status_of.ensures
          (subst (λ (n : ℕ). Closes c.status_of.result c.finish.result (ping_text n answer) (g.O.Sink.written c.args.out.now) (g.O.Sink.written c.finish.new.out)) c.get.ensures.value closes);
      fault = c.ping-answer.ensures.link_fault;
    }

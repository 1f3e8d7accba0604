use Rattle.std.proofs.Common.{subst}
use Rattle.pb_tool.specs.declared.status.Status.{Status}
use Rattle.pb_tool.specs.Closing.{Closes}
use Rattle.pb_tool.specs.Serve.{answer_text}
use Rattle.pb_tool.proofs.ClosingLemmas.{Closes-finished}
use Rattle.pb_tool.proofs.serve.print.Goals as goal

pub returns-clause-ran : goal.returns-clause-ran
returns-clause-ran g c =
    let answer = c.serve-answer.result in
    let closes = Closes-finished _ _ (answer_text answer) c.new-page.result c.push_answer.new.page c.finish.new.page _ _ _ c.new-page.ensures c.push_answer.ensures c.finish.ensures.adds
    c.finish.ensures.closed in
    record {
      answer = answer;
      means = c.serve-answer.ensures.means;
      printed = subst (λ (s : Status). Closes s c.finish.result (answer_text answer) (g.O.Sink.written c.args.out.now) (g.O.Sink.written c.finish.new.out)) c.status_of.ensures closes;
    }

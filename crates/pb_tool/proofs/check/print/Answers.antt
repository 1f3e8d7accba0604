use Rattle.std.proofs.Common.{subst}
use Rattle.pb_tool.specs.declared.status.Status.{Status}
use Rattle.pb_tool.specs.Closing.{Closes}
use Rattle.pb_tool.specs.Check.{answer_text, answered}
use Rattle.pb_tool.proofs.CheckLemmas.{means_of}
use Rattle.pb_tool.proofs.ClosingLemmas.{Closes-finished}
use Rattle.pb_tool.proofs.check.print.Goals as goal

pub returns-clause-ran : goal.returns-clause-ran
returns-clause-ran g c =
    let answer = answered c.open-answer.result in
    let closes = Closes-finished _ _ (answer_text answer) c.new-page.result c.push_answer.new.page c.finish.new.page _ _ _ c.new-page.ensures c.push_answer.ensures c.finish.ensures.adds
    c.finish.ensures.closed in
    record {
      answer = answer;
      means = means_of c.open-answer.result _ (g.S.Disk.view c.open-answer.new.disk) c.open-answer.ensures.same c.open-answer.ensures.opened c.open-answer.ensures.refused;
      file = c.open-answer.ensures.file;
      printed = subst (λ (s : Status). Closes s c.finish.result (answer_text answer) (g.O.Sink.written c.args.out.now) (g.O.Sink.written c.finish.new.out)) c.status_of.ensures closes;
    }

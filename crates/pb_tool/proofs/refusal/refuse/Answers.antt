use Rattle.std.proofs.Common.{subst}
use Rattle.pb_tool.specs.declared.status.Status.{Status}
use Rattle.pb_tool.specs.Closing.{Closes}
use Rattle.pb_tool.specs.Refusal.{refusal_text}
use Rattle.pb_tool.proofs.ClosingLemmas.{Closes-finished}
use Rattle.pb_tool.proofs.refusal.refuse.Goals as goal

pub returns-clause-closed : goal.returns-clause-closed
returns-clause-closed g c =
    let closes = Closes-finished _ _ (refusal_text c.args.fault) c.new-page.result c.push_refused.new.page c.finish.new.page _ _ _ c.new-page.ensures c.push_refused.ensures c.finish.ensures.adds
    c.finish.ensures.closed in
    subst (λ (s : Status). Closes s c.finish.result (refusal_text c.args.fault) (g.O.Sink.written c.args.out.now) (g.O.Sink.written c.finish.new.out)) c.status_of_refusal.ensures closes

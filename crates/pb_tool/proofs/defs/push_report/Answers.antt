use Rattle.pb_io.proofs.PageLemmas.{Adds-two}
use Rattle.pb_tool.proofs.DefsLemmas.{report_next}
use Rattle.pb_tool.proofs.defs.push_report.Goals as goal

pub loop-line-preserved : goal.loop-line-preserved
loop-line-preserved g c =
    Adds-two _ _ _ _ _ _ (report_next c.args.archive.now.plan c.args.lines.now c.loop-line.line-index c.line-item.result c.loop-line-test.true c.line-item.is) c.loop-line.invariant c.push_line.ensures

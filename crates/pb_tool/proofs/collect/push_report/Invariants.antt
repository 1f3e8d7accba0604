use Rattle.std.proofs.Common.{take}
use Rattle.pb_io.specs.Page.{Adds, printing}
use Rattle.pb_tool.specs.Collect.{report_text}
use Rattle.pb_tool.proofs.collect.push_report.Given as goal

abbrev pub invariant-loop-outcome : goal.invariant-loop-outcome
invariant-loop-outcome g l =
    Adds (report_text l.archive.plan (take l.outcome-index l.archive.tables) (take l.outcome-index l.outcomes)) (printing g.O.Sink l.fn.page l.fn.out) (printing g.O.Sink l.page l.out)

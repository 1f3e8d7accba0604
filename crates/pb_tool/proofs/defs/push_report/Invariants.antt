use Rattle.std.proofs.Common.{take}
use Rattle.pb_io.specs.Page.{Adds, printing}
use Rattle.pb_tool.specs.Defs.{report_text}
use Rattle.pb_tool.proofs.defs.push_report.Given as goal

abbrev pub invariant-loop-line : goal.invariant-loop-line
invariant-loop-line g l = Adds (report_text l.archive.plan (take l.line-index l.lines)) (printing g.O.Sink l.fn.page l.fn.out) (printing g.O.Sink l.page l.out)

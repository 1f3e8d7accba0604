use Rattle.std.proofs.Common.{take}
use Rattle.std.specs.List.{flat_map}
use Rattle.pb_io.specs.Page.{Adds, printing}
use Rattle.pb_tool.specs.Check.{table_text}
use Rattle.pb_tool.proofs.check.push_tables.Given as goal

abbrev pub invariant-loop-id : goal.invariant-loop-id
invariant-loop-id g l =
    Adds (flat_map (table_text l.archive.plan) (take l.id l.archive.tables)) (printing g.O.Sink l.fn.page l.fn.out) (printing g.O.Sink l.page l.out)

use Rattle.std.proofs.Common.{take}
use Rattle.pb_io.specs.Page.{Adds, printing, parts_text}
use Rattle.pb_io.proofs.page.Page.put.Given as goal

abbrev pub invariant-loop-part : goal.invariant-loop-part
invariant-loop-part g l = Adds (parts_text (take l.part-index l.parts)) (printing g.O.Sink l.fn.self l.fn.out) (printing g.O.Sink l.self l.out)

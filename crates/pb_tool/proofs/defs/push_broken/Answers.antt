use Rattle.std.proofs.Common.{sym, subst}
use Rattle.pb_collect.specs.declared.fault.DefsFault.{DefsFault}
use Rattle.pb_io.specs.Page.{Adds, printing}
use Rattle.pb_tool.specs.Defs.{broken_line}
use Rattle.pb_tool.proofs.defs.push_broken.Goals as goal

pub returns-in-LinkFault : goal.returns-in-LinkFault
unfolding broken_line
returns-in-LinkFault g c =
    subst (λ (f : DefsFault). Adds (broken_line f) (printing g.O.Sink c.args.page.now c.args.out.now) (printing g.O.Sink c.push-in-LinkFault.new.self c.push-in-LinkFault.new.out)) (sym c.in-LinkFault.is) c.push-in-LinkFault.ensures

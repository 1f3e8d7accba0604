use Rattle.std.proofs.Common.{sym, subst}
use Rattle.pb_collect.specs.declared.report.DefsWhat.{DefsWhat}
use Rattle.pb_io.specs.Page.{Adds, printing}
use Rattle.pb_tool.specs.Defs.{rest_text}
use Rattle.pb_tool.proofs.defs.push_rest.Goals as goal

pub returns-in-Bad : goal.returns-in-Bad
unfolding rest_text
returns-in-Bad g c =
    subst (λ (w : DefsWhat). Adds (rest_text c.args.line.now w) (printing g.O.Sink c.args.page.now c.args.out.now) (printing g.O.Sink c.put.new.self c.put.new.out)) (sym c.in-Bad.is) c.put.ensures

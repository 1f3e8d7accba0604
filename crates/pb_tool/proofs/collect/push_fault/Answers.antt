use Rattle.std.proofs.Common.{sym, ap}
use Rattle.pb_collect.specs.declared.collector.RoundResult.{RoundResult}
use Rattle.pb_io.proofs.PageLemmas.{Adds-as}
use Rattle.pb_tool.specs.Collect.{fault_line}
use Rattle.pb_tool.proofs.collect.push_fault.Goals as goal

pub returns-in-LinkFault : goal.returns-in-LinkFault
unfolding fault_line
returns-in-LinkFault g c = Adds-as _ _ _ _ (ap (λ (r : RoundResult). fault_line r) (sym c.in-LinkFault.is)) c.push-in-LinkFault.ensures

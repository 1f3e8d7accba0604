use Rattle.std.proofs.Common.{ap, sym}
use Rattle.pb_io.proofs.PageLemmas.{Adds-as, Adds-trans}
use Rattle.pb_tool.specs.PingText.{fault_text}
use Rattle.pb_tool.proofs.ping.lines.push_fault.Goals as goal

pub returns-in-LinkFault : goal.returns-in-LinkFault
unfolding fault_text
returns-in-LinkFault g c = Adds-as _ _ _ _ (ap (fault_text c.args.node) (sym c.in-LinkFault.is)) c.push.ensures

pub returns-in-Clock : goal.returns-in-Clock
unfolding fault_text
returns-in-Clock g c = Adds-as _ _ _ _ (ap (fault_text c.args.node) (sym c.in-Clock.is)) (Adds-trans _ _ _ _ _ c.push_hello.ensures c.push_no_clock.ensures)

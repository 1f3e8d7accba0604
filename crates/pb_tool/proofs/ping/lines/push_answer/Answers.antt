use Rattle.std.proofs.Common.{ap, sym}
use Rattle.pb_io.proofs.PageLemmas.{Adds-as, Adds-trans}
use Rattle.pb_tool.specs.PingText.{ping_text}
use Rattle.pb_tool.proofs.ping.lines.push_answer.Goals as goal

pub returns-in-Ok : goal.returns-in-Ok
unfolding ping_text
returns-in-Ok g c = Adds-as _ _ _ _ (ap (ping_text c.args.node) (sym c.in-Ok.is)) (Adds-trans _ _ _ _ _ c.push_hello.ensures c.push_clock.ensures)

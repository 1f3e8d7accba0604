use Rattle.std.proofs.Common.{refl}
use Rattle.pb_io.proofs.PageLemmas.{Adds-three}
use Rattle.pb_tool.specs.PingText.{clock_line}
use Rattle.pb_tool.proofs.ping.lines.push_clock.Goals as goal

pub returns : goal.returns
unfolding clock_line
returns g c = Adds-three _ _ _ _ _ _ _ _ refl c.push_start.ensures c.push_time.ensures c.push.ensures

use Rattle.std.proofs.Common.{refl}
use Rattle.pb_io.proofs.PageLemmas.{Adds-three}
use Rattle.pb_tool.specs.PingText.{no_hello_line}
use Rattle.pb_tool.proofs.ping.lines.push_no_hello.Goals as goal

pub returns : goal.returns
unfolding no_hello_line
returns g c = Adds-three _ _ _ _ _ _ _ _ refl c.push_start.ensures c.push_cause.ensures c.push.ensures

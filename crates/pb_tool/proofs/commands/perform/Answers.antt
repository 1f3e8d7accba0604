use Rattle.std.proofs.Common.{[]}
use Rattle.pb_io.proofs.SendLemmas.{sends_none}
use Rattle.pb_tool.proofs.commands.perform.Goals as goal

pub returns-in-Show-clause-may_leave : goal.returns-in-Show-clause-may_leave
returns-in-Show-clause-may_leave g c = rw c.in-Show.is (sends_none [] _ (g.met.S.Disk.lawful c.args.site.now))

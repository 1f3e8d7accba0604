use Rattle.pb_collect.proofs.AddingLemmas.{disk_none}
use Rattle.pb_collect.proofs.FragmentLemmas.{get_below}
use Rattle.pb_collect.proofs.defining.treat.Goals as goal

pub returns-then-is_err-clause-keeps : goal.returns-then-is_err-clause-keeps
returns-then-is_err-clause-keeps g c = disk_none c.args.archive.now (g.D.Disk.view c.args.disk.now) (g.met.D.Disk.lawful c.args.disk.now) c.requires.opened

pub compare-requires-clause-there : goal.compare-requires-clause-there
compare-requires-clause-there g c = get_below c.args.archive.now.tables c.in-Some.id.0 c.in-Some.ensures.0 c.in-Some.ensures.1.there

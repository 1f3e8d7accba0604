use Rattle.pb_collect.proofs.AddingLemmas.{disk_none}
use Rattle.pb_collect.proofs.defining.define.Goals as goal

pub returns-in_default-clause-keeps : goal.returns-in_default-clause-keeps
returns-in_default-clause-keeps g c = disk_none c.args.archive.now (g.D.Disk.view c.args.disk.now) (g.met.D.Disk.lawful c.args.disk.now) c.requires.opened

pub returns-in_default-reserve-clause-keeps : goal.returns-in_default-reserve-clause-keeps
returns-in_default-reserve-clause-keeps g c = disk_none c.args.archive.now (g.D.Disk.view c.args.disk.now) (g.met.D.Disk.lawful c.args.disk.now) c.requires.opened

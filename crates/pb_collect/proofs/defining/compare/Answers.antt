use Rattle.std.proofs.Common.{Some}
use Rattle.pb_archive.specs.Opened.{stop_of}
use Rattle.pb_collect.proofs.AddingLemmas.{disk_failed, disk_made, disk_none}
use Rattle.pb_collect.proofs.defining.compare.Goals as goal

pub returns-then-state-signature-clause-keeps : goal.returns-then-state-signature-clause-keeps
returns-then-state-signature-clause-keeps g c = disk_none c.args.archive.now (g.D.Disk.view c.args.disk.now) (g.met.D.Disk.lawful c.args.disk.now) c.requires.opened

pub returns-in-Some-clause-keeps : goal.returns-in-Some-clause-keeps
returns-in-Some-clause-keeps g c = disk_none c.args.archive.now (g.D.Disk.view c.args.disk.now) (g.met.D.Disk.lawful c.args.disk.now) c.requires.opened

pub returns-in-Ok-clause-keeps : goal.returns-in-Ok-clause-keeps
returns-in-Ok-clause-keeps g c =
    disk_made c.stop.new.self (stop_of c.args.id.0 (Some c.args.signature)) (g.D.Disk.view c.args.disk.now) (g.D.Disk.view c.stop.new.disk) tt (g.met.D.Disk.lawful c.stop.new.disk)
    c.in-Ok.ensures.made.opened c.stop.ensures.writes

pub returns-in-Err-clause-keeps : goal.returns-in-Err-clause-keeps
returns-in-Err-clause-keeps g c =
    disk_failed c.args.archive.now c.stop.new.self (stop_of c.args.id.0 (Some c.args.signature)) (g.D.Disk.view c.args.disk.now) (g.D.Disk.view c.stop.new.disk) tt
    (g.met.D.Disk.lawful c.stop.new.disk) c.requires.opened c.in-Err.ensures.refusal.stays c.stop.ensures.writes

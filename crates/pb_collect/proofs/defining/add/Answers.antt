use Rattle.std.proofs.Common.{List, ℕ, refl}
use Rattle.pb_tdf.specs.Definition.{Definition, IsTable, TableBytes}
use Rattle.pb_archive.specs.Entry.{Added}
use Rattle.pb_collect.proofs.AddingLemmas.{disk_failed, disk_made, disk_none}
use Rattle.pb_collect.proofs.defining.add.Goals as goal

is_table : (d : Definition) (bytes : List ℕ) → TableBytes d bytes → IsTable d
is_table d bytes is = record { formed = is.formed; within = is.within; same = refl }

pub returns-then-from-ge-TABLES_MAX-clause-keeps : goal.returns-then-from-ge-TABLES_MAX-clause-keeps
returns-then-from-ge-TABLES_MAX-clause-keeps g c = disk_none c.args.archive.now (g.D.Disk.view c.args.disk.now) (g.met.D.Disk.lawful c.args.disk.now) c.requires.opened

pub returns-in_default-clause-keeps : goal.returns-in_default-clause-keeps
returns-in_default-clause-keeps g c = disk_none c.args.archive.now (g.D.Disk.view c.args.disk.now) (g.met.D.Disk.lawful c.args.disk.now) c.requires.opened

pub returns-in-Ok-add_table-clause-keeps : goal.returns-in-Ok-add_table-clause-keeps
returns-in-Ok-add_table-clause-keeps g c =
    let d = c.in-Ok.ensures.found in
    disk_made c.add_table.new.self (Added c.args.station c.args.number.0 d.0) (g.D.Disk.view c.args.disk.now) (g.D.Disk.view c.add_table.new.disk) tt (g.met.D.Disk.lawful c.add_table.new.disk)
    c.in-Ok-add_table.ensures.made.opened (c.add_table.ensures.writes d.0 (is_table d.0 c.bytes.result.now d.1) d.2)

pub returns-in-Err-clause-keeps : goal.returns-in-Err-clause-keeps
returns-in-Err-clause-keeps g c =
    let d = c.in-Ok.ensures.found in
    disk_failed c.args.archive.now c.add_table.new.self (Added c.args.station c.args.number.0 d.0) (g.D.Disk.view c.args.disk.now) (g.D.Disk.view c.add_table.new.disk) tt
    (g.met.D.Disk.lawful c.add_table.new.disk) c.requires.opened c.in-Err.ensures.refusal.stays (c.add_table.ensures.writes d.0 (is_table d.0 c.bytes.result.now d.1) d.2)

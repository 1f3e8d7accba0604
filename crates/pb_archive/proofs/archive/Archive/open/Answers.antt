use Rattle.pb_archive.proofs.OpeningLemmas.{opening_leaves, refused_before}
use Rattle.pb_archive.proofs.archive.Archive.open.Goals as goal

pub returns-in-Err-clause-refused : goal.returns-in-Err-clause-refused
returns-in-Err-clause-refused g c = refused_before _ _ c.in-Err.fault c.in_ok-journal.ensures.same c.in-Err.ensures.refused

pub returns-in-Err-clause-leaves : goal.returns-in-Err-clause-leaves
returns-in-Err-clause-leaves g c =
    let opened = c.in_ok-journal.ensures in
    opening_leaves _ _ _ (g.met.D.Disk.lawful c.args.disk.now) opened.same opened.opened.settled opened.link opened.leaves c.read_all.ensures.peeks.run.leaves

pub returns-in-Ok-clause-leaves : goal.returns-in-Ok-clause-leaves
returns-in-Ok-clause-leaves g c =
    let opened = c.in_ok-journal.ensures in
    opening_leaves _ _ _ (g.met.D.Disk.lawful c.args.disk.now) opened.same opened.opened.settled opened.link opened.leaves c.read_all.ensures.peeks.run.leaves

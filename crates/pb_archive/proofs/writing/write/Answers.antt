use Rattle.std.proofs.Common.{◌++◌}
use Rattle.pb_archive.proofs.WritingLemmas.{writes_by, file_made, leaves_made, wrote_by, stands_by}
use Rattle.pb_archive.proofs.writing.write.Goals as goal

pub append-requires-clause-opened : goal.append-requires-clause-opened
append-requires-clause-opened g c usable = record {
  rests = λ f view. let stands = c.requires.opened.1 f view in (stands.bodies, stands.rests);
  settled = c.requires.settled;
}

pub returns-in_err-append-clause-writes : goal.returns-in_err-append-clause-writes
returns-in_err-append-clause-writes g c r change can =
    writes_by change _ _ c.append.ensures.link (file_made change (g.D.Disk.view c.args.disk.now) (g.D.Disk.view c.append.new.disk) r c.args.journal.now.gate (c.args.head.now ++ c.args.rest.now) can c.append.ensures.file)
    (leaves_made change _ _ r c.args.journal.now.gate (c.args.head.now ++ c.args.rest.now) can c.append.ensures.leaves)

pub returns-clause-writes : goal.returns-clause-writes
returns-clause-writes g c r change can =
    writes_by change _ _ c.append.ensures.link (file_made change (g.D.Disk.view c.args.disk.now) (g.D.Disk.view c.append.new.disk) r c.args.journal.now.gate (c.args.head.now ++ c.args.rest.now) can c.append.ensures.file)
    (leaves_made change _ _ r c.args.journal.now.gate (c.args.head.now ++ c.args.rest.now) can c.append.ensures.leaves)

pub returns-clause-wrote : goal.returns-clause-wrote
returns-clause-wrote g c r change can =
    let done = c.in_ok-append.ensures in (
      wrote_by change _ _ r c.args.journal.now.gate (c.args.head.now ++ c.args.rest.now) (g.met.D.Disk.lawful c.args.disk.now) can done.added done.opened.settled,
      stands_by change (g.D.Disk.view c.args.disk.now) (g.D.Disk.view c.append.new.disk) r c.args.journal.now.gate c.append.new.self.gate (c.args.head.now ++ c.args.rest.now) can done.added done.opened.rests,
    )

use Rattle.pb_archive.proofs.CreationLemmas.{has_by}
use Rattle.pb_archive.proofs.creation.has_entry.Goals as goal

pub next-requires : goal.next-requires
next-requires g c f view =
    let rests = c.requires.rests f view in
    (rests.0, c.in_ok-entries.ensures.reads c.args.journal.now.gate f rests.0 rests.1)

pub returns-in-Ok-clause-has : goal.returns-in-Ok-clause-has
returns-in-Ok-clause-has g c f view =
    let rests = c.requires.rests f view in
    has_by c.next.new.self c.args.journal.now.gate f rests.0 c.in-Ok.more rests.1 (c.in-Ok.ensures.read f rests.0 view (c.in_ok-entries.ensures.reads c.args.journal.now.gate f rests.0 rests.1))

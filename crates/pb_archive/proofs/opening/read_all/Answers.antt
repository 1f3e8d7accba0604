use Rattle.pb_archive.proofs.opening.read_all.Goals as goal

pub read_first-requires : goal.read_first-requires
read_first-requires g c f view =
    let rests = c.requires.rests f view in
    record { bodies = rests.0; rests = rests.1; ahead = c.in_ok-entries.ensures.reads c.args.journal.now.gate f rests.0 rests.1 }

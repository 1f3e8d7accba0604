use Rattle.pb_truth.proofs.ViewLemmas.{good_start, good_then, good_asks, good_writes}
use Rattle.pb_truth.proofs.pairs.pairs_stay_good.Goals as goal

pub returns-clause-start : goal.returns-clause-start
returns-clause-start g c now = good_start (g.S.Disk.view now)

pub returns-clause-further : goal.returns-clause-further
returns-clause-further g c x y z = good_then (g.S.Disk.view x) (g.S.Disk.view y) (g.S.Disk.view z)

pub returns-clause-asks : goal.returns-clause-asks
returns-clause-asks g c old new = good_asks (g.S.Disk.view old) (g.S.Disk.view new)

pub returns-clause-writes : goal.returns-clause-writes
returns-clause-writes g c change old new =
    good_writes c.entries_are_one.ensures c.entries_are_one_archive.ensures c.changes_take_nothing_back.ensures.change change (g.S.Disk.view old) (g.S.Disk.view new)

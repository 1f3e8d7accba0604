use Rattle.std.proofs.Common.{◌∙◌, sym, subst}
use Rattle.pb_journal.specs.Reading.{Ahead}
use Rattle.pb_journal.proofs.ReadingLemmas.{opened_ahead, read_on}
use Rattle.pb_journal.proofs.tests.second.Goals as goal

pub next-requires : goal.next-requires
next-requires g c = opened_ahead _ (g.D.Disk.view c.open.new.disk) _ c.in_ok-journal.ensures.opened c.in_ok-first.ensures.reads

pub next-requires-2 : goal.next-requires-2
next-requires-2 g c f view =
    let gate = c.in_ok-journal.journal.gate in
    let was = sym c.next.ensures.disk.file ∙ view in
    let ahead = opened_ahead gate (g.D.Disk.view c.open.new.disk) _ c.in_ok-journal.ensures.opened c.in_ok-first.ensures.reads f was in
    let on = read_on c.next.new.self gate f ahead.0 _ c.if-not-branch.false (c.in_ok-next.ensures.read f ahead.0 was ahead.1) in
    (on.0, c.in_ok-after.ensures.reads f on.0 (subst (λ n. Ahead f n gate on.0) (sym c.place.ensures) on.2.ahead))

use Rattle.std.proofs.Common.{◌<◌, sym, subst}
use Rattle.pb_archive.specs.Inside.{IsKnown}
use Rattle.pb_archive.specs.Reader.{Reader, Awaits}
use Rattle.pb_archive.proofs.RowsLemmas.{gap_taken, kept_taken}
use Rattle.pb_archive.proofs.rows.Rows.take.Goals as goal

pub returns-then-self-clause-takes : goal.returns-then-self-clause-takes
returns-then-self-clause-takes c file rows awaits =
    let was = subst (λ r. Awaits r file rows) (sym c.self.view_is) awaits in
    gap_taken _ file rows was (subst (λ (r : Reader). r.next < r.to) (sym c.self.view_is) c.requires.more) (subst IsKnown (sym c.self.view_is) c.requires.known)
    c.min-end.result c.if-self.true c.min-end.ensures

pub returns-else-self-clause-takes : goal.returns-else-self-clause-takes
returns-else-self-clause-takes c file rows awaits =
    let was = subst (λ r. Awaits r file rows) (sym c.self.view_is) awaits in
    kept_taken _ file rows was (subst (λ (r : Reader). r.next < r.to) (sym c.self.view_is) c.requires.more) (subst IsKnown (sym c.self.view_is) c.requires.known) c.if-self.false

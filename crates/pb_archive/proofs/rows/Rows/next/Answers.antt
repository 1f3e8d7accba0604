use Rattle.std.proofs.Common.{None, sym, subst}
use Rattle.pb_archive.specs.Reader.{Awaits}
use Rattle.pb_archive.proofs.ReaderLemmas.{with_row}
use Rattle.pb_archive.proofs.rows.Rows.next.Goals as goal

pub find-requires-clause-rows : goal.find-requires-clause-rows
find-requires-clause-rows g c f view =
    let has = c.requires f view in
    (has.0, with_row _ f has.0 None (subst (λ r. Awaits r f has.0) (sym c.self.view_is) has.1))

pub returns-in-Err-clause-read : goal.returns-in-Err-clause-read
returns-in-Err-clause-read g c f rows view awaits =
    c.in-Err.ensures.rows f rows view (with_row _ f rows None (subst (λ r. Awaits r f rows) (sym c.self.view_is) awaits))

pub returns-clause-read : goal.returns-clause-read
returns-clause-read g c f rows view awaits =
    c.take.ensures.takes f rows (c.in-Ok.ensures.rows f rows view (with_row _ f rows None (subst (λ r. Awaits r f rows) (sym c.self.view_is) awaits)))

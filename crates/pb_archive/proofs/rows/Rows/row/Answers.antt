use Rattle.std.proofs.Common.{drop, sym, ap, ◌∙◌, arith}
use Rattle.pb_archive.specs.Reader.{Reader}
use Rattle.pb_archive.proofs.RowsLemmas.{all_from, last_fits, last_timed, last_row, last_len}
use Rattle.pb_archive.proofs.rows.Rows.row.Goals as goal

pub record_at-requires-clause-fits : goal.record_at-requires-clause-fits
record_at-requires-clause-fits c =
    last_fits _ _ c.in-Kept.k _ _ _ _ c.in-Kept.is c.self.invariant _ (all_from 10 c.body.result.now ∙ ap (drop 10) c.body.ensures)

pub record_at-requires-clause-timed : goal.record_at-requires-clause-timed
record_at-requires-clause-timed c =
    last_timed _ _ c.in-Kept.k _ _ _ _ c.in-Kept.is c.self.invariant _ (all_from 10 c.body.result.now ∙ ap (drop 10) c.body.ensures)

pub returns-in-Kept-clause-row : goal.returns-in-Kept-clause-row
returns-in-Kept-clause-row c =
    ap (λ (r : Reader). r.row) (sym c.self.view_is)
    ∙ last_row _ _ c.in-Kept.k _ _ _ _ c.in-Kept.is c.self.invariant _ _ c.record_at.result (all_from 10 c.body.result.now ∙ ap (drop 10) c.body.ensures) (omega arith) c.record_at.ensures

pub returns-in-Kept-clause-whole : goal.returns-in-Kept-clause-whole
returns-in-Kept-clause-whole c =
    last_len _ _ c.in-Kept.k _ _ _ _ c.in-Kept.is c.self.invariant _ _ c.record_at.result (all_from 10 c.body.result.now ∙ ap (drop 10) c.body.ensures) c.record_at.ensures
    ∙ ap (λ (r : Reader). r.layout.record_len) c.self.view_is

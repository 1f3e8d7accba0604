use Rattle.std.proofs.Common.{◌+◌, ◌++◌, drop, sym, ap, ◌∙◌, arith}
use Rattle.pb_tdf.specs.Seen.{seen_of}
use Rattle.pb_value.specs.Values.{shapes}
use Rattle.pb_value.proofs.ShapeLemmas.{shapes-field, run_shapes-none}
use Rattle.pb_value.proofs.record_values.next_run.Goals as goal

pub returns-then-run-gt0-clause-found : goal.returns-then-run-gt0-clause-found
returns-then-run-gt0-clause-found c =
    let fields = c.args.table.now.fields in
    let rest = shapes (drop (c.loop-at.at + 1) fields) in
    c.loop-at.invariant ∙ shapes-field fields c.loop-at.at (seen_of c.in_ok-field.field-0) c.in_ok-field.ensures
    ∙ ap (λ l. l ++ rest) (sym c.run_of-run.ensures)

pub loop-at-preserved : goal.loop-at-preserved
loop-at-preserved c =
    let fields = c.args.table.now.fields in
    let rest = shapes (drop (c.loop-at.at + 1) fields) in
    c.loop-at.invariant ∙ shapes-field fields c.loop-at.at (seen_of c.in_ok-field.field-0) c.in_ok-field.ensures
    ∙ ap (λ l. l ++ rest) (sym c.run_of-run.ensures ∙ run_shapes-none c.run_of-run.result (omega arith))

use Rattle.std.proofs.Common.{length, sym, ap, ◌∙◌, arith}
use Rattle.std.proofs.lemmas.List.{length-drop}
use Rattle.pb_value.specs.Values.{shape, bytes_of}
use Rattle.pb_value.proofs.ShapeLemmas.{shapes_left-first, cut-first}
use Rattle.pb_value.proofs.record_values.ValuesOfIterator.next.Goals as goal

pub split_at-requires : goal.split_at-requires
split_at-requires c =
    let run = c.in_ok-run.run' in
    let first = shapes_left-first run c.in_ok-run.at c.self.inside.table.now.fields c.in_ok-run.ensures.some in
    omega (arith, ap bytes_of c.in_ok-run.ensures.found, ap bytes_of first, c.self.invariant)

pub invariant_of-self : goal.invariant_of-self
invariant_of-self c =
    let run = c.in_ok-run.run' in
    let first = shapes_left-first run c.in_ok-run.at c.self.inside.table.now.fields c.in_ok-run.ensures.some in
    omega (arith, ap bytes_of c.in_ok-run.ensures.found, ap bytes_of first, c.self.invariant, ap length c.split_at.ensures.back, length-drop run.len c.self.inside.bytes.now)

pub returns-clause-steps : goal.returns-clause-steps
returns-clause-steps c =
    let run = c.in_ok-run.run' in
    let first = shapes_left-first run c.in_ok-run.at c.self.inside.table.now.fields c.in_ok-run.ensures.some in
    rw (c.split_at.ensures.front, c.split_at.ensures.back)
    (sym c.self.view_is ∙ cut-first _ _ (shape run.kind run.len) c.self.inside.bytes.now (c.in_ok-run.ensures.found ∙ first))

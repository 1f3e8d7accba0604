use Rattle.std.proofs.Common.{not, ap, ◌∙◌, arith}
use Rattle.pb_bmp5.specs.TrueReply.{is_between}
use Rattle.pb_station.proofs.PrefixLemmas.{prefix-step, prefix-stop, prefix-end, untested}
use Rattle.pb_station.proofs.run.first_inside.Goals as goal

pub returns-then-is_inside-clause-first : goal.returns-then-is_inside-clause-first
returns-then-is_inside-clause-first c = λ all stands.
    let t = c.time_of.ensures all stands in
    let from = c.args.span.from in
    let to = c.args.span.to in
    let out = untested from to c.time_of.result t.stored c.is_inside.result t.same c.is_inside.ensures ∙ ap not c.if-is_inside.true in
    let stop = prefix-stop (λ r. not (is_between from to r)) all c.loop-number.number t.stored t.is out in
    let so_far = c.loop-number.invariant.so_far all stands in
    omega (arith, stop, so_far)

pub loop-number-preserved : goal.loop-number-preserved
loop-number-preserved c = record {
  low = omega arith;
  so_far = λ all stands.
      let t = c.time_of.ensures all stands in
      let from = c.args.span.from in
      let to = c.args.span.to in
      let out = untested from to c.time_of.result t.stored c.is_inside.result t.same c.is_inside.ensures ∙ ap not c.if-is_inside.false in
      let step = prefix-step (λ r. not (is_between from to r)) all c.loop-number.number t.stored t.is out in
      let so_far = c.loop-number.invariant.so_far all stands in
      omega (arith, step, so_far);
}

pub returns-clause-first : goal.returns-clause-first
returns-clause-first c = λ all stands.
    let from = c.args.span.from in
    let to = c.args.span.to in
    let end = prefix-end (λ r. not (is_between from to r)) all c.loop-number.number (omega (arith, stands.next)) in
    let so_far = c.loop-number.invariant.so_far all stands in
    omega (arith, end, so_far)

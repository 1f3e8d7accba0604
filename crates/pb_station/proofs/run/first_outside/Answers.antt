use Rattle.std.proofs.Common.{◌∙◌, arith}
use Rattle.pb_bmp5.specs.TrueReply.{is_between}
use Rattle.pb_station.proofs.PrefixLemmas.{prefix-step, prefix-stop, prefix-end, tested}
use Rattle.pb_station.proofs.run.first_outside.Goals as goal

pub returns-then-not-is_inside-clause-first : goal.returns-then-not-is_inside-clause-first
returns-then-not-is_inside-clause-first c = λ all stands.
    let t = c.time_of.ensures all stands in
    let from = c.args.span.from in
    let to = c.args.span.to in
    let out = tested from to c.time_of.result t.stored c.is_inside.result t.same c.is_inside.ensures ∙ c.if-not-is_inside.true in
    let stop = prefix-stop (is_between from to) all c.loop-number.number t.stored t.is out in
    let so_far = c.loop-number.invariant all stands in
    omega (arith, stop, so_far)

pub loop-number-preserved : goal.loop-number-preserved
loop-number-preserved c = λ all stands.
    let t = c.time_of.ensures all stands in
    let from = c.args.span.from in
    let to = c.args.span.to in
    let out = tested from to c.time_of.result t.stored c.is_inside.result t.same c.is_inside.ensures ∙ c.if-not-is_inside.false in
    let step = prefix-step (is_between from to) all c.loop-number.number t.stored t.is out in
    let so_far = c.loop-number.invariant all stands in
    omega (arith, step, so_far)

pub returns-clause-first : goal.returns-clause-first
returns-clause-first c = λ all stands.
    let from = c.args.span.from in
    let to = c.args.span.to in
    let end = prefix-end (is_between from to) all c.loop-number.number (omega (arith, stands.next)) in
    let so_far = c.loop-number.invariant all stands in
    omega (arith, end, so_far)

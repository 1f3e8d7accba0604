use Rattle.std.proofs.Common.{◌≡◌, ◌≤◌, ◌*◌, ◌+◌, ap, ◌∙◌, arith, refl, length}
use Rattle.std.proofs.Math.Nat.{mul-le-mul_right}
use Rattle.pb_station.proofs.WrittenLemmas.{next-copied, all-copied, mid-len, copied-at}
use Rattle.pb_station.proofs.copying.copy_each.Goals as goal

pub loop-k-init : goal.loop-k-init
loop-k-init c = λ all stands.
    let none : 0 * c.args.slice.len ≡ 0 = omega arith in
    rw none refl

pub loop-k-preserved : goal.loop-k-preserved
loop-k-preserved c = λ all stands.
    let len = c.args.slice.len in
    let k = c.loop-k.k in
    let fits = mul-le-mul_right len c.loop-k-test.true in
    let more : (k + 1) * len ≤ length c.args.out.now = omega (arith, fits) in
    let at : c.from.result * len ≡ k * len = ap (λ n. n * len) c.from.ensures in
    let size = mid-len (c.from.result * len) len c.loop-k.out (omega (arith, at, more)) in
    next-copied c.args.slice.offset len c.args.records.first k _ _ all c.args.out.now c.loop-k.out c.copy_held.new.out
    (c.loop-k.invariant all stands) c.loop-k.auto.out more (c.copy_held.auto.out ∙ size)
    (copied-at all _ _ c.args.slice.offset _ _ c.copy_held.new.out (ap (λ n. c.args.records.first + n) c.from-in-loop-k.ensures) size (c.copy_held.ensures all stands)) at (omega arith)

pub returns-clause-written : goal.returns-clause-written
returns-clause-written c = λ all stands.
    all-copied c.args.slice.offset c.args.slice.len c.args.records.first c.loop-k.k c.args.records.count _ all c.args.out.now c.loop-k.out
    (c.loop-k.invariant all stands) c.loop-k.auto.out c.requires.fits (omega arith) (ap (λ n. n * c.args.slice.len) c.from-2.ensures)

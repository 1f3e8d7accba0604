use Rattle.std.proofs.Common.{◌≡◌, ◌≤◌, sym, ap, subst, ◌∙◌, arith, refl, length, length-take, take, drop}
use Rattle.std.specs.List.{AllByRecursion}
use Rattle.pb_base.specs.declared.layout.Layout.{Layout}
use Rattle.pb_ring.specs.Ring.{Kept, IsRecord, StandsFor}
use Rattle.pb_station.proofs.RunLemmas.{events-run, intervals-run, run-eight, all-take, all-drop}
use Rattle.pb_station.proofs.WrittenLemmas.{both-written, written-as, copied-at}
use Rattle.pb_station.proofs.copying.copy_run.Goals as goal

pub returns-then-layout-clause-written : goal.returns-then-layout-clause-written
returns-then-layout-clause-written c = λ all stands.
    let r = c.args.records in
    let layout = c.args.held.now.layout in
    let own = subst (λ (k : Kept). StandsFor k all) (sym c.ring.ensures.value) stands in
    let len : c.args.held.now.ring.record_len ≡ c.layout-len.result.record_len =
    c.ring.ensures.record_len ∙ ap (λ (l : Layout). l.record_len) (sym c.layout-len.ensures.value) in
    let each = subst (λ n. AllByRecursion (IsRecord n) all) len stands.each in
    let some = all-take (IsRecord c.layout-len.result.record_len) r.count (drop r.first all) (all-drop (IsRecord c.layout-len.result.record_len) r.first all each) in
    let event = ap (λ (l : Layout). l.event) (sym c.layout.ensures.value) ∙ c.if-layout.true in
    written-as _ _ c.args.out.now _ _ _ (events-run layout c.layout-len.result.record_len (take r.count (drop r.first all)) event some) refl (c.copy_each.ensures.written all own)

pub returns-clause-written : goal.returns-clause-written
returns-clause-written c = λ all stands.
    let r = c.args.records in
    let layout = c.args.held.now.layout in
    let own-2 = subst (λ (k : Kept). StandsFor k all) (sym c.ring-2.ensures.value) stands in
    let own-3 = subst (λ (k : Kept). StandsFor k all) (sym c.ring-3.ensures.value) stands in
    let len : c.args.held.now.ring.record_len ≡ c.layout-len.result.record_len =
    c.ring-2.ensures.record_len ∙ ap (λ (l : Layout). l.record_len) (sym c.layout-len.ensures.value) in
    let each = subst (λ n. AllByRecursion (IsRecord n) all) len stands.each in
    let event = ap (λ (l : Layout). l.event) (sym c.layout.ensures.value) ∙ c.if-layout.false in
    let run = run-eight layout r.count c.requires.some event in
    let fits : 8 ≤ length c.args.out.now = omega (arith, run, c.requires.fits) in
    let eight = length-take 8 c.args.out.now in
    let size : length (take 8 c.args.out.now) ≡ 8 = omega (arith, eight, fits) in
    let head = c.copy_held.new.out in
    written-as _ _ c.args.out.now _ _ _
    (intervals-run layout c.layout-len.result.record_len r.first r.count all head event c.requires.some each (copied-at all r.first r.first 0 _ 8 head refl size (c.copy_held.ensures all own-2))) refl
    (both-written head _ c.args.out.now c.copy_each-2.new.out 8 c.copy_each-2.result (c.copy_held.auto.out ∙ size) fits (c.copy_each-2.ensures.written all own-3))

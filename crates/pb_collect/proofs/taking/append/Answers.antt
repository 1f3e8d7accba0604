use Rattle.std.proofs.Common.{[], ◌∷◌, ◌++◌, sym, subst}
use Rattle.std.specs.Prelude.{Option}
use Rattle.std.proofs.lemmas.Result.{IfErr-weaker, on_ok_weaker}
use Rattle.pb_archive.specs.Entry as entry
use Rattle.pb_archive.specs.Opened.{CanAdvanceHere, register_of}
use Rattle.pb_collect.specs.Effects.{seen_advance}
use Rattle.pb_collect.specs.Kept.{KeepsWhere}
use Rattle.pb_collect.specs.Progress.{advance_in}
use Rattle.pb_collect.specs.Taking.{AdvancesTrue, AllCameOf, CanFollow}
use Rattle.pb_collect.specs.declared.effect.Effect.{Effect}
use Rattle.pb_collect.proofs.ChangingLemmas.{changes_appended}
use Rattle.pb_collect.proofs.TakingLemmas.{keeps_appended, came_one}
use Rattle.pb_collect.proofs.taking.append.Goals as goal

pub advance-requires-clause-follows : goal.advance-requires-clause-follows
advance-requires-clause-follows g c held there =
    let p = c.args.progress.now in
    let can = subst (λ (e : Option Effect). CanFollow held (advance_in p.layout p.joined e)) c.in-Some.is (c.requires.follows held there) in
    subst (λ (a : entry.Advance). CanAdvanceHere held a) (sym c.advance-form.ensures) can.0

pub returns-in-Some-clause-keeps : goal.returns-in-Some-clause-keeps
returns-in-Some-clause-keeps g c rest =
    let p = c.args.progress.now in
    let old = g.D.Disk.view c.args.disk.now in
    let new = g.D.Disk.view c.advance.new.disk in
    subst (λ (e : Option Effect). KeepsWhere (AdvancesTrue old c.args.id.0 (advance_in p.layout p.joined e ++ rest)) old new) (sym c.in-Some.is)
    (subst (λ (a : entry.Advance). KeepsWhere (AdvancesTrue old c.args.id.0 (a ∷ rest)) old new) c.advance-form.ensures
    (keeps_appended old new c.args.id.0 (seen_advance c.advance-form.result) rest (g.met.D.Disk.lawful c.advance.new.disk) c.advance.ensures.writes))

pub returns-in-Some-clause-came : goal.returns-in-Some-clause-came
returns-in-Some-clause-came g c =
    let p = c.args.progress.now in
    let old = g.D.Disk.view c.args.disk.now in
    let new = g.D.Disk.view c.advance.new.disk in
    on_ok_weaker c.advance.result (λ wrote.
    subst (λ (e : Option Effect). AllCameOf old new c.args.id.0 (advance_in p.layout p.joined e)) (sym c.in-Some.is)
    (subst (λ (a : entry.Advance). AllCameOf old new c.args.id.0 (a ∷ [])) c.advance-form.ensures
    (came_one old new c.args.id.0 (seen_advance c.advance-form.result) wrote.images))) c.advance.ensures.wrote

pub returns-in-Some-clause-changes : goal.returns-in-Some-clause-changes
returns-in-Some-clause-changes g c =
    let p = c.args.progress.now in
    changes_appended c.advance.result c.args.id.0 (register_of c.args.archive.now) (register_of c.advance.new.self) (seen_advance c.advance-form.result)
    (λ held there.
    let can = subst (λ (e : Option Effect). CanFollow held (advance_in p.layout p.joined e)) c.in-Some.is (c.requires.follows held there) in
    (subst (λ (a : entry.Advance). CanAdvanceHere held a) (sym c.advance-form.ensures) can.0, tt))
    (on_ok_weaker c.advance.result (λ made. made.changed) c.advance.ensures.made) (IfErr-weaker c.advance.result _ _ (λ fault refusal. refusal.stays) c.advance.ensures.refusal)

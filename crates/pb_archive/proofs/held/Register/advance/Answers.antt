use Rattle.std.proofs.Common.{◌≡◌, ℕ, List, set, arith, sym, ◌∙◌, ap, subst, ◌<◌, length, Some}
use Rattle.std.specs.Prelude.{slice_get}
use Rattle.std.proofs.lemmas.Option.{slice_get_within}
use Rattle.pb_archive.specs.Archive.{changed_at}
use Rattle.pb_archive.specs.Inside as inside
use Rattle.pb_archive.specs.Opened as opened
use Rattle.pb_archive.specs.declared.held.Held.{Held}
use Rattle.pb_archive.proofs.HeldLemmas.{set_changed_at, register_advanced}
use Rattle.pb_archive.proofs.held.Register.advance.Goals as goal

tables_are : (c : goal.After-self-1) → set c.self.inside.tables.items c.from.result c.advance.new.self ≡ changed_at c.args.id.0 (opened.advanced (inside.seen_advance c.args.advance.now)) c.self.inside.tables.items
tables_are c =
    let f = opened.advanced (inside.seen_advance c.args.advance.now) in
    let items = c.self.inside.tables.items in
    let within : c.from.result < length items =
    omega (arith, slice_get_within c.args.self.now.tables c.args.id.0 c.requires.there.0 c.requires.there.1.there, ap (λ (r : opened.Register). length r.tables) c.self.view_is, c.from.ensures) in
    ap (set items c.from.result) c.advance.ensures
    ∙ set_changed_at f items c.from.result c.index_mut.result.now c.index_mut.result.now within c.index_mut.ensures.value
    ∙ ap (λ (n : ℕ). changed_at n f items) c.from.ensures

pub invariant_of-self : goal.invariant_of-self
invariant_of-self c =
    let there = subst (λ (r : opened.Register). slice_get r.tables c.args.id.0 ≡ Some c.requires.there.0) (sym c.self.view_is) c.requires.there.1.there in
    let kept = register_advanced _ c.args.id.0 (inside.seen_advance c.args.advance.now) c.requires.there.0 c.self.invariant.0 there c.requires.there.2 in
    (subst (λ (l : List Held). inside.IsRegister (record { plan = c.self.inside.plan; tables = l })) (sym (tables_are c)) kept, c.self.invariant.1)

pub returns : goal.returns
returns c =
    let f = opened.advanced (inside.seen_advance c.args.advance.now) in
    let made : opened.Register → opened.Register = λ r. record { plan = r.plan; tables = changed_at c.args.id.0 f r.tables } in
    ap (λ (l : List Held). let r : opened.Register = record { plan = c.self.inside.plan; tables = l } in r) (tables_are c) ∙ ap made c.self.view_is

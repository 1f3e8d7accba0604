-- A field's name lies within the table's bytes.
use Rattle.std.proofs.Common.{ℕ, List, length, get_or, subst, sym, ap, ◌∙◌, ◌<◌, ◌≡◌}
use Rattle.std.proofs.lemmas.Bool.{ltb-true}
use Rattle.std.proofs.lemmas.List.Elements.{All-from_recursion}
use Rattle.pb_tdf.specs.declared.place.FieldPlace.{FieldPlace}
use Rattle.pb_tdf.specs.Inside.Kept.{Lies}
use Rattle.pb_tdf.proofs.TableLemmas.{kept-lie}
use Rattle.pb_tdf.proofs.table.Table.field.Goals as goal

pub field_of-requires : goal.field_of-requires
field_of-requires c =
    let places : List FieldPlace = c.self.inside.places.items in
    let place : FieldPlace = c.in_ok-place.field-0.now in
    let found = c.in_ok-place.ensures.lookup in
    let within : c.args.n < length places = subst (λ (x : List FieldPlace). c.args.n < length x) c.deref.ensures.value (ltb-true _ _ (sym found.0)) in
    let same : place ≡ get_or places c.args.n place = found.1 ∙ ap (λ (x : List FieldPlace). get_or x c.args.n place) c.deref.ensures.value in
    let all = All-from_recursion (Lies (length c.self.inside.bytes.items)) places (kept-lie _ _ _ _ _ _ c.self.invariant) in
    let lies : Lies (length c.self.inside.bytes.items) place = subst (Lies (length c.self.inside.bytes.items)) (sym same) (all c.args.n place within) in
    subst (λ (b : List ℕ). Lies (length b) place) (sym c.deref-2.ensures.value) lies

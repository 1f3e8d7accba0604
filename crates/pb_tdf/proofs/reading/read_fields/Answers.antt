-- The fields so far, and what the next one does.
use Rattle.std.proofs.Common.{◌≡◌, [], ◌∷◌, ◌++◌, Some, None, Ok, cond, true, refl, sym, ap, subst, ◌∙◌, arith}
use Rattle.std.specs.Prelude.{is_ok}
use Rattle.std.proofs.lemmas.Result.{err_from_is_err_and}
use Rattle.pb_tdf.specs.Order.{Kind, at_item, no_table, begun_field}
use Rattle.pb_tdf.specs.Inside.Passing.{PassesSome, PassesFieldOrEnd, IsStopped}
use Rattle.pb_tdf.proofs.FieldsLemmas.{has_cause, passes-no-field, passes-one-more, passes-all, passes-stop}
use Rattle.pb_tdf.proofs.reading.read_fields.Goals as goal

pub loop-places-init : goal.loop-places-init
loop-places-init c d f0 none =
    let items = c.args.items.now in
    subst (λ x. PassesSome items items c.args.start d f0 x c.none-totals.result) (sym c.new-places.ensures.items) (passes-no-field items c.args.start d f0 c.none-totals.result c.none-totals.ensures none)

pub read_field-requires : goal.read_field-requires
read_field-requires c = let k = c.loop-places.invariant no_table (begun_field 0) refl in omega (arith, k.passes.same_limit, c.requires)

pub returns-in_err-place : goal.returns-in_err-place
returns-in_err-place c =
    let p = err_from_is_err_and c.from_residual.result c.from_residual.ensures.1 in
    let items = c.args.items.now in
    let fault = c.in_err-place.field-0.0 in
    rw (p.1, p.2)
    (λ d f0 none.
    has_cause (IsStopped items (at_item Kind d f0 items.left)) fault
    (passes-stop items c.loop-places.items c.read_field.new.items c.args.start d f0 c.loop-places.places.items c.loop-places.totals fault (c.loop-places.invariant d f0 none) c.in_err-place.ensures.passes))

pub loop-places-preserved : goal.loop-places-preserved
loop-places-preserved c d f0 none =
    let items = c.args.items.now in
    let mid = c.loop-places.items in
    let new = c.read_field.new.items in
    let places = c.loop-places.places.items in
    let totals = c.loop-places.totals in
    let place = c.in-Some.place in
    let next : PassesFieldOrEnd mid new c.args.start totals (Ok (Some (place, c.in-Some.with))) = subst (λ x. PassesFieldOrEnd mid new c.args.start totals (Ok x)) c.in-Some.is c.in_ok-place.ensures.passes in
    let pushed : is_ok c.push.result ≡ true = sym c.map_err.ensures.variant ∙ ap is_ok c.in_ok-map_err.was in
    let more : c.push.new.self.items ≡ places ++ place ∷ [] = c.push.ensures.items ∙ ap (λ b. cond b (places ++ place ∷ []) places) pushed in
    subst (λ x. PassesSome items new c.args.start d f0 x c.in-Some.with) (sym more) (passes-one-more items mid new c.args.start d f0 places totals c.in-Some.with place (c.loop-places.invariant d f0 none) next)

pub returns : goal.returns
returns c bytes d f0 none st =
    let items = c.args.items.now in
    let mid = c.loop-places.items in
    let new = c.read_field.new.items in
    let totals = c.loop-places.totals in
    let last : PassesFieldOrEnd mid new c.args.start totals (Ok None) = subst (λ x. PassesFieldOrEnd mid new c.args.start totals (Ok x)) c.in_default.is c.in_ok-place.ensures.passes in
    passes-all items mid new c.args.start d f0 c.loop-places.places.items totals bytes (c.loop-places.invariant d f0 none) last st

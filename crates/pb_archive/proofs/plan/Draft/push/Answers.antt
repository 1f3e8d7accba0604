use Rattle.std.proofs.Common.{List, map, subst, sym, ◌∙◌, ap, arith}
use Rattle.std.specs.List.{AllByRecursion}
use Rattle.pb_archive.specs.Inside.{name_of}
use Rattle.pb_archive.specs.Plan.{Plan, IsBegun, Differs, with_station}
use Rattle.pb_archive.proofs.PlanLemmas.{begun_with, names_insert}
use Rattle.pb_archive.proofs.plan.Draft.push.Goals as goal

pub invariant_of-self : goal.invariant_of-self
invariant_of-self c =
    let now = c.args.self.now in
    let begun = begun_with now c.args.station (subst IsBegun c.self.view_is c.self.invariant.0) c.requires.few c.requires.station c.requires.differs in
    let inside = subst (λ (p : Plan). IsBegun (with_station p c.args.station)) (sym c.self.view_is) begun in
    let differs = subst (λ (p : Plan). AllByRecursion (λ s. Differs s c.args.station) p.stations) (sym c.self.view_is) c.requires.differs in
    let items = c.push_reserved.ensures.items in (
      subst (λ (l : List _). IsBegun (record { me = c.self.inside.me; via = c.self.inside.via; stations = l })) (sym items) inside,
      (c.in-Ok.ensures.keys ∙ names_insert c.self.inside.stations.items c.args.station _ c.self.invariant.1 differs) ∙ ap (map name_of) (sym items),
      omega (arith, c.self.invariant.2, c.push_reserved.ensures.capacity),
    )

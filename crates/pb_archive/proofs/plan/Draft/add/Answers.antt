use Rattle.std.proofs.Common.{arith, ap, length, ◌≢◌, sym, subst, ◌∙◌, true≢false}
use Rattle.std.specs.List.{AllByRecursion}
use Rattle.pb_archive.specs.Plan.{Plan, IsBegun, Differs}
use Rattle.pb_archive.proofs.PlanLemmas.{begun_with, with_differs, Each-both, Each-weaker}
use Rattle.pb_archive.proofs.plan.Draft.add.Goals as goal

pub returns-then-not-is_free-clause-refused : goal.returns-then-not-is_free-clause-refused
returns-then-not-is_free-clause-refused c is begun =
    let each = Each-weaker (λ t. Differs t c.args.station) (λ t. c.args.station.addr ≢ t.addr) (λ t d. d.0) c.args.self.now.stations (with_differs c.args.self.now c.args.station begun) in
    let at = subst (λ (p : Plan). AllByRecursion (λ t. c.args.station.addr ≢ t.addr) p.stations) (sym c.self.view_is) each in
    let free = c.is_free.ensures.1 (subst (AllByRecursion (λ t. c.args.station.addr ≢ t.addr)) (sym c.deref.ensures.value) at) in
    true≢false (sym free ∙ c.if-not-is_free.true)

pub returns-then-has_name-clause-refused : goal.returns-then-has_name-clause-refused
returns-then-has_name-clause-refused c is begun =
    c.has_name.ensures.taken c.if-has_name.true
    (Each-weaker (λ t. Differs t c.args.station) (λ t. c.args.station.name ≢ t.name) (λ t d. d.1) c.args.self.now.stations (with_differs c.args.self.now c.args.station begun))

pub push-requires-clause-differs : goal.push-requires-clause-differs
push-requires-clause-differs c =
    let free = c.is_free.ensures.0 c.if-not-is_free.false in
    Each-both (λ t. c.args.station.addr ≢ t.addr) (λ t. c.args.station.name ≢ t.name) (λ t. Differs t c.args.station) (λ t a n. (a, n)) c.args.self.now.stations
    (subst (λ (p : Plan). AllByRecursion (λ t. c.args.station.addr ≢ t.addr) p.stations) c.self.view_is (subst (AllByRecursion (λ t. c.args.station.addr ≢ t.addr)) c.deref.ensures.value free))
    (c.has_name.ensures.free c.if-has_name.false)

pub returns-in-Ok-clause-begun : goal.returns-in-Ok-clause-begun
returns-in-Ok-clause-begun c =
    let now = c.args.self.now in
    let free = c.is_free.ensures.0 c.if-not-is_free.false in
    let differs = Each-both (λ t. c.args.station.addr ≢ t.addr) (λ t. c.args.station.name ≢ t.name) (λ t. Differs t c.args.station) (λ t a n. (a, n)) now.stations
    (subst (λ (p : Plan). AllByRecursion (λ t. c.args.station.addr ≢ t.addr) p.stations) c.self.view_is (subst (AllByRecursion (λ t. c.args.station.addr ≢ t.addr)) c.deref.ensures.value free))
    (c.has_name.ensures.free c.if-has_name.false) in
    subst IsBegun (sym c.in-Ok.ensures.added)
    (begun_with now c.args.station (subst IsBegun c.self.view_is c.self.invariant.0)
    (omega (arith, c.if-len-ge-STATIONS_MAX.false, c.len.ensures, ap (λ (p : Plan). length p.stations) c.self.view_is)) c.requires differs)

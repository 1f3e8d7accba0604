use Rattle.std.proofs.Common.{arith, sym, ◌∙◌, ap}
use Rattle.std.specs.Prelude.{position}
use Rattle.std.specs.Str.{bytes_eq}
use Rattle.pb_archive.specs.Find.{has_name}
use Rattle.pb_archive.specs.Plan.{Plan}
use Rattle.pb_archive.proofs.PlanLemmas.{position-names, position-none}
use Rattle.pb_archive.proofs.plan.Draft.place_of.Goals as goal

pub returns-in-None : goal.returns-in-None
returns-in-None c =
    sym (position-none c.args.name.now c.self.inside.me c.self.inside.stations.items (λ is. c.in-None.ensures (is.0, omega (arith, is.1))) c.self.invariant.0.each)
    ∙ ap (λ (p : Plan). position (has_name c.args.name.now) p.stations) c.self.view_is

pub returns-in-Some : goal.returns-in-Some
returns-in-Some c =
    let found = c.get_index_of.ensures.index
    ∙ ap (position (bytes_eq c.in-Some.name)) c.self.invariant.1
    ∙ position-names c.in-Some.name c.self.inside.stations.items
    ∙ ap (λ (p : Plan). position (has_name c.in-Some.name) p.stations) c.self.view_is in
    found ∙ ap (λ (name : _). position (has_name name) c.args.self.now.stations) c.in-Some.ensures.1

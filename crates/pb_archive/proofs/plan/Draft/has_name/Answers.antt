use Rattle.std.proofs.Common.{◌∙◌, ◌≢◌, sym, ap, subst}
use Rattle.std.specs.List.{AllByRecursion, list_any}
use Rattle.std.specs.Str.{bytes_eq}
use Rattle.pb_archive.specs.Plan.{Plan}
use Rattle.pb_archive.proofs.PlanLemmas.{names_free, names_taken}
use Rattle.pb_archive.proofs.plan.Draft.has_name.Goals as goal

pub returns-clause-free : goal.returns-clause-free
returns-clause-free c is =
    subst (λ (p : Plan). AllByRecursion (λ s. c.args.name ≢ s.name) p.stations) c.self.view_is
    (names_free c.self.inside.stations.items c.args.name (sym (ap (list_any (bytes_eq c.args.name)) c.self.invariant.1) ∙ sym c.contains.ensures ∙ is))

pub returns-clause-taken : goal.returns-clause-taken
returns-clause-taken c is =
    subst (λ (p : Plan). AllByRecursion (λ s. c.args.name ≢ s.name) p.stations → ⊥) c.self.view_is
    (names_taken c.self.inside.stations.items c.args.name (sym (ap (list_any (bytes_eq c.args.name)) c.self.invariant.1) ∙ sym c.contains.ensures ∙ is))

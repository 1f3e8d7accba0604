use Rattle.std.proofs.Common.{ℕ, List, [], ◌∷◌, inl, inr, arith, subst, sym}
use Rattle.std.proofs.lemmas.List.Elements.{Contains-push_cases}
use Rattle.pb_base.specs.World.{Sent}
use Rattle.pb_base.specs.Request.{Request}
use Rattle.pb_truth.specs.Asked.{IsIn, WasAsked}
use Rattle.pb_truth.proofs.AskedLemmas.{asked_more, asked_quietly, asked_extends, asked_prefix}
use Rattle.pb_truth.proofs.asking.requests_stay_below_the_fronts.Goals as goal

-- the requests of one sending
in_frame : (frame : List ℕ) (r : Request) → WasAsked (Sent frame ∷ []) r → IsIn r frame
in_frame frame r asked = elim (Contains-push_cases [] frame asked.0 asked.1) [
  | inl none ↦ absurd (omega (arith, none.1))
  | inr same ↦ subst (λ f. IsIn r f) (sym same) asked.2
]

pub returns-clause-quietly : goal.returns-clause-quietly
returns-clause-quietly c = asked_quietly

pub returns-clause-sent : goal.returns-clause-sent
returns-clause-sent c w a frame asked allowed =
    asked_more w (Sent frame ∷ []) a asked (λ r is own. allowed r (in_frame frame r is) own)

pub returns-clause-extends : goal.returns-clause-extends
returns-clause-extends c = asked_extends

pub returns-clause-earlier : goal.returns-clause-earlier
returns-clause-earlier c = asked_prefix

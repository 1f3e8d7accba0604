use Rattle.std.proofs.Common.{sym, ap, ◌∙◌, inl, inr}
use Rattle.pb_frame.specs.declared.state.State.TheVariants.{Skipping, Between, Whole, Plain, Quoting}
use Rattle.pb_frame.specs.Hearing.{Hearing}
use Rattle.pb_frame.proofs.TurnLemmas.{Follows-turn}
use Rattle.pb_frame.proofs.unframer.Unframer.push.Goals as goal

pub returns-in-Skipping-clause-follows : goal.returns-in-Skipping-clause-follows
returns-in-Skipping-clause-follows c =
    Follows-turn Skipping _ _ _ _ (ap (λ (h : Hearing). h.state) (sym c.self.view_is) ∙ c.in-Skipping.is) c.pass.ensures.after c.pass.ensures.heard

pub returns-in-Between-clause-follows : goal.returns-in-Between-clause-follows
returns-in-Between-clause-follows c = elim c.in-Between.is [
  | inl e ↦ Follows-turn Between _ _ _ _ (ap (λ (h : Hearing). h.state) (sym c.self.view_is) ∙ e) c.begin.ensures.after c.begin.ensures.heard
  | inr e ↦ Follows-turn Whole _ _ _ _ (ap (λ (h : Hearing). h.state) (sym c.self.view_is) ∙ e) c.begin.ensures.after c.begin.ensures.heard
]

pub returns-in-Plain-clause-follows : goal.returns-in-Plain-clause-follows
returns-in-Plain-clause-follows c =
    Follows-turn Plain _ _ _ _ (ap (λ (h : Hearing). h.state) (sym c.self.view_is) ∙ c.in-Plain.is) c.go_on.ensures.after c.go_on.ensures.heard

pub returns-in-Quoting-clause-follows : goal.returns-in-Quoting-clause-follows
returns-in-Quoting-clause-follows c =
    Follows-turn Quoting _ _ _ _ (ap (λ (h : Hearing). h.state) (sym c.self.view_is) ∙ c.in-Quoting.is) c.unquote.ensures.after c.unquote.ensures.heard

use Rattle.std.proofs.Common.{sym, ap, ◌∙◌, is_some, inl, inr}
use Rattle.pb_frame.specs.declared.state.State.TheVariants.{Plain, Quoting}
use Rattle.pb_frame.specs.Hearing.{Hearing}
use Rattle.pb_frame.proofs.TurnLemmas.{unfinished-at, unfinished-not}
use Rattle.pb_frame.proofs.unframer.Unframer.pending.Goals as goal

pub returns-in-Plain : goal.returns-in-Plain
returns-in-Plain c = λ pushed st. elim c.in-Plain.is [
  | inl e ↦ ap is_some (unfinished-at Plain _ pushed (ap (λ (h : Hearing). h.state) (sym c.self.view_is) ∙ e) st)
  | inr e ↦ ap is_some (unfinished-at Quoting _ pushed (ap (λ (h : Hearing). h.state) (sym c.self.view_is) ∙ e) st)
]

pub returns-in_default : goal.returns-in_default
returns-in_default c = λ pushed st.
    let state = ap (λ (h : Hearing). h.state) c.self.view_is in
    unfinished-not _ pushed st (λ e. c.in_default.not-Plain (state ∙ e)) (λ e. c.in_default.not-Quoting (state ∙ e))

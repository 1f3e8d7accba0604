use Rattle.std.proofs.Common.{◌≡◌, refl, ap, ◌∙◌}
use Rattle.pb_ask.specs.declared.question.Conclusion.TheVariants.{Answer}
use Rattle.pb_collect.specs.declared.answer.Said.{Said}
use Rattle.pb_collect.proofs.progress.Progress.next.Goals as goal

pub returns-in-Answer : goal.returns-in-Answer
returns-in-Answer c =
    let said = c.in-Answer.said in
    ((said.more, c.in-Answer.is ∙ ap (λ resp. Answer (record { resp = resp; more = said.more })) c.if-said-eq-REDEFINED.true), refl)

pub returns-in-Answer-2 : goal.returns-in-Answer-2
returns-in-Answer-2 c =
    let same : c.in-Answer.said ≡ c.in-Answer-2.said = cc in
    (((c.in-Answer-2.said.more, c.in-Answer-2.is), c.if-said-ne0.true, λ seven. c.if-said-eq-REDEFINED.false (ap (λ (s : Said). s.resp) same ∙ seven)), refl)

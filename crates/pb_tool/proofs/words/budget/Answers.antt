use Rattle.std.proofs.Common.{arith, sym, ◌∙◌}
use Rattle.std.proofs.lemmas.Fmt.{decimal_injective}
use Rattle.pb_tool.proofs.words.budget.Goals.{then-n-eq0-via-then-n-eq0, then-n-eq0-via-else-n-eq0+then-n-gt-BUDGET_MAX}
use Rattle.pb_tool.proofs.words.budget.Goals as goal

pub returns-then-n-eq0 : goal.returns-then-n-eq0
returns-then-n-eq0 c = λ p.
    let same = decimal_injective p.0 c.in_ok-n.n (omega (arith, p.1)) (omega arith) (sym p.2 ∙ sym c.as_bytes.ensures.value ∙ c.in_ok-n.ensures) in
    elim c.then-n-eq0.branch [
      | then-n-eq0-via-then-n-eq0 w ↦ omega (arith, p.1, same, w.if-n-eq0.true)
      | then-n-eq0-via-else-n-eq0+then-n-gt-BUDGET_MAX w ↦ omega (arith, p.1, same, w.if-n-gt-BUDGET_MAX.true)
    ]

use Rattle.std.proofs.Common.{arith, sym, ◌∙◌}
use Rattle.std.proofs.lemmas.Fmt.{decimal_injective}
use Rattle.pb_tool.proofs.words.range.Goals as goal

pub returns-then-from-to : goal.returns-then-from-to
returns-then-from-to c = λ n are.
    let from = decimal_injective n.from.0 c.in_ok-from.from (omega (arith, are.range)) (omega arith) (sym are.from_text ∙ sym c.as_bytes.ensures.value ∙ c.in_ok-from.ensures) in
    let to = decimal_injective n.to.0 c.in_ok-to.to (omega (arith, are.range)) (omega arith) (sym are.to_text ∙ sym c.as_bytes-2.ensures.value ∙ c.in_ok-to.ensures) in
    omega (arith, are.range, from, to, c.if-from-to.true)

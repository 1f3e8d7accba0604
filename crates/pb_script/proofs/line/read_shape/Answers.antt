use Rattle.std.proofs.Common.{◌≡◌, ◌↔◌, ℕ, Bool, true, false, IsTrue, sym, ◌∙◌, subst, arith}
use Rattle.std.proofs.lemmas.Bool.{true≢false}
use Rattle.pb_script.specs.declared.table.Kind.{Kind}
use Rattle.pb_script.specs.declared.table.Shape.{Shape}
use Rattle.pb_script.specs.Script.{IsShape}
use Rattle.pb_script.specs.ScriptText.{space, line_feed}
use Rattle.pb_base.proofs.WordLemmas.{number_next}
use Rattle.pb_script.proofs.LineLemmas.{kind_next, counts}
use Rattle.pb_script.proofs.line.read_shape.Goals as goal

no_shape : (allowed : Bool) (s : Shape) (size interval : ℕ) (kind : Kind) (count : ℕ) → size ≡ s.size → interval ≡ s.interval → kind ≡ s.kind → count ≡ s.count
    → allowed ≡ false → IsTrue allowed ↔ IsShape (record { size = size; interval = interval; kind = kind; count = count }) → IsShape s → ⊥
no_shape allowed s size interval kind count a b k n refused exact is =
    not_both allowed refused (exact.1 (subst IsShape (λ j. record { size = sym a j; interval = sym b j; kind = sym k j; count = sym n j }) is))
  where
    not_both : (b : Bool) → b ≡ false → IsTrue b → ⊥
    not_both true is_false holds = true≢false is_false
    not_both false is_false holds = true≢false (sym holds)

pub returns-in-None-number_until : goal.returns-in-None-number_until
returns-in-None-number_until c s rest is bytes =
    let size = number_next c.in-Some.size.n s.size space _ _ c.in-Some.ensures.0 is.size.1 (omega arith) (sym c.in-Some.ensures.1 ∙ bytes) in
    c.in-None-number_until.ensures s.interval _ (omega (arith, is.interval)) size.1

pub returns-in-None-kind_until_space : goal.returns-in-None-kind_until_space
returns-in-None-kind_until_space c s rest is bytes =
    let size = number_next c.in-Some.size.n s.size space _ _ c.in-Some.ensures.0 is.size.1 (omega arith) (sym c.in-Some.ensures.1 ∙ bytes) in
    let interval = number_next c.in-Some-number_until.interval.n s.interval space _ _ c.in-Some-number_until.ensures.0 (omega (arith, is.interval)) (omega arith) (sym c.in-Some-number_until.ensures.1 ∙ size.1) in
    c.in-None-kind_until_space.ensures s.kind _ interval.1

pub returns-in-None-number_until-2 : goal.returns-in-None-number_until-2
returns-in-None-number_until-2 c s rest is bytes =
    let size = number_next c.in-Some.size.n s.size space _ _ c.in-Some.ensures.0 is.size.1 (omega arith) (sym c.in-Some.ensures.1 ∙ bytes) in
    let interval = number_next c.in-Some-number_until.interval.n s.interval space _ _ c.in-Some-number_until.ensures.0 (omega (arith, is.interval)) (omega arith) (sym c.in-Some-number_until.ensures.1 ∙ size.1) in
    let kind = kind_next c.in-Some-kind_until_space.kind.kind s.kind _ _ (sym c.in-Some-kind_until_space.ensures ∙ interval.1) in
    c.in-None-number_until-2.ensures s.count rest (counts s is) kind.1

pub returns-then-not-is_allowed : goal.returns-then-not-is_allowed
returns-then-not-is_allowed c s rest is bytes =
    let size = number_next c.in-Some.size.n s.size space _ _ c.in-Some.ensures.0 is.size.1 (omega arith) (sym c.in-Some.ensures.1 ∙ bytes) in
    let interval = number_next c.in-Some-number_until.interval.n s.interval space _ _ c.in-Some-number_until.ensures.0 (omega (arith, is.interval)) (omega arith) (sym c.in-Some-number_until.ensures.1 ∙ size.1) in
    let kind = kind_next c.in-Some-kind_until_space.kind.kind s.kind _ _ (sym c.in-Some-kind_until_space.ensures ∙ interval.1) in
    let count = number_next c.in-Some-number_until-2.count.n s.count line_feed _ _ c.in-Some-number_until-2.ensures.0 (counts s is) (omega arith) (sym c.in-Some-number_until-2.ensures.1 ∙ kind.1) in
    no_shape _ s _ _ _ _ size.0 interval.0 kind.0 count.0 c.if-not-is_allowed.true c.is_allowed.ensures is

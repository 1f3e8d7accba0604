use Rattle.std.proofs.Common.{[], ◌∷◌, ◌++◌, sym, ap, subst, ◌∙◌, append_assoc}
use Rattle.std.specs.List.{AllByRecursion}
use Rattle.pb_value.specs.ValueText.{HasText}
use Rattle.pb_csv.proofs.LineLemmas.{values-none, values-next}
use Rattle.pb_csv.proofs.line.push_values.Goals as goal

pub loop-value-init : goal.loop-value-init
loop-value-init c = record {
  so_far = ([], c.values-left.ensures.values, values-none c.values-left.result _);
  texts = subst (AllByRecursion HasText) (sym c.values-left.ensures.values) c.values-left.ensures.texts;
}

pub loop-value-preserved : goal.loop-value-preserved
loop-value-preserved c =
    let was = c.loop-value.invariant in
    let first = c.in-Some.ensures.steps in
    record {
      so_far = (
        was.so_far.0 ++ _ ∷ [],
        append_assoc was.so_far.0 (_ ∷ []) c.next.new.self ∙ ap (λ l. was.so_far.0 ++ l) (sym first) ∙ was.so_far.1,
        values-next _ _ _ _ _ was.so_far.2 c.in_ok-push_value.ensures,
      );
      texts = (subst (AllByRecursion HasText) first was.texts).1;
    }

use Rattle.std.proofs.Common.{List, ℕ, ◌-◌, ◌∷◌, [], ◌∙◌, ap, ◌++◌, codes, decimal, map, append_assoc}
use Rattle.pb_csv.specs.CsvText.{empty_field, value_names}
use Rattle.pb_csv.proofs.LineLemmas.{row-made, text_of}
use Rattle.pb_csv.proofs.line.gap.Goals as goal

pub returns : goal.returns
returns c fields has =
    let from = decimal c.args.from.0 in
    let last = decimal (c.args.to.0 - 1) in
    row-made (from ++ (codes "-" ++ last)) (codes "gap") (map empty_field (value_names fields))
    c.push_first.new.row.items c.push_next.new.row.items c.extend_from_slice-3.new.self.items c.push-2.new.self.items
    (c.in_ok-push_first.ensures ∙ ap (λ (l : List ℕ). l ++ text_of c.deref.result.now) c.clear-2.ensures.items
    ∙ ap text_of (c.deref.ensures.value ∙ c.in_ok-extend_from_slice-2.ensures.items
    ∙ ap (λ l. c.push.new.self.items ++ l) (c.as_bytes-2.ensures.value ∙ c.format-2.ensures.text)
    ∙ ap (λ l. l ++ last) (c.in_ok-push.ensures.items ∙ ap (λ l. l ++ 45 ∷ []) (c.in_ok-extend_from_slice.ensures.items ∙ ap (λ (l : List ℕ). l ++ c.as_bytes.result.now) c.clear.ensures.items ∙ c.as_bytes.ensures.value ∙ c.format.ensures.text))
    ∙ append_assoc from (45 ∷ []) last))
    c.in_ok-push_next.ensures
    (c.in_ok-extend_from_slice-3.ensures.items ∙ ap (λ l. c.push_next.new.row.items ++ l) (c.deref-2.ensures.value ∙ has.empties_are))
    c.in_ok-push-2.ensures.items

use Rattle.std.proofs.Common.{List, ℕ, ◌∙◌, ap, ◌++◌, codes}
use Rattle.pb_csv.specs.CsvText.{value_names}
use Rattle.pb_csv.proofs.LineLemmas.{row-made}
use Rattle.pb_csv.proofs.line.header.Goals as goal

pub returns : goal.returns
returns c fields has =
    row-made (codes "record") (codes "time") (value_names fields) c.push_first.new.row.items c.push_next.new.row.items c.extend_from_slice.new.self.items c.push.new.self.items
    (c.in_ok-push_first.ensures ∙ ap (λ (l : List ℕ). l ++ codes "record") c.clear.ensures.items)
    c.in_ok-push_next.ensures
    (c.in_ok-extend_from_slice.ensures.items ∙ ap (λ l. c.push_next.new.row.items ++ l) (c.deref.ensures.value ∙ has.names_are))
    c.in_ok-push.ensures.items

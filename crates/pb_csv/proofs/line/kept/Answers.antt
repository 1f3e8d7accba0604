use Rattle.std.proofs.Common.{List, ℕ, ◌∷◌, ◌∙◌, sym, ap, ◌++◌, decimal, map}
use Rattle.csv.specs.Writing.{comma}
use Rattle.pb_base.specs.declared.nsec.Nsec.{Nsec}
use Rattle.pb_base.specs.Record.{content}
use Rattle.pb_base.specs.Time.{time_of}
use Rattle.pb_record.specs.Cut.{seen_record}
use Rattle.pb_value.specs.TimeText.{time_text}
use Rattle.pb_value.specs.Values.{values_of}
use Rattle.pb_csv.specs.CsvText.{value_field}
use Rattle.pb_csv.proofs.LineLemmas.{row-made, text_of}
use Rattle.pb_csv.proofs.line.kept.Goals as goal

pub returns : goal.returns
returns c =
    let view = c.args.view.now in
    row-made (decimal view.number.0) (time_text (time_of (content (seen_record view).stored))) (map value_field (values_of c.args.table.now.fields view.bytes.now))
    c.push_number.new.row.items c.push_time.new.row.items c.push_values.new.row.items c.push.new.self.items
    (c.in_ok-push_number.ensures ∙ ap (λ (l : List ℕ). l ++ text_of (decimal view.number.0)) c.clear.ensures.items)
    (c.in_ok-push_time.ensures.added ∙ ap (λ (t : Nsec). c.push_number.new.row.items ++ comma ∷ text_of (time_text t)) (sym (c.push_time.ensures.spelled view.bytes.now)))
    c.in_ok-push_values.ensures c.in_ok-push.ensures.items

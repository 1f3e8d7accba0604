use Rattle.std.proofs.Common.{sym, ap, ◌∙◌}
use Rattle.pb_script.specs.ScriptText.{table_line}
use Rattle.pb_script.proofs.DraftLemmas.{table_refused, store_refused}
use Rattle.pb_script.proofs.draft.Draft.take_line.Goals as goal

pub returns-in-Err-clause-refused : goal.returns-in-Err-clause-refused
returns-in-Err-clause-refused c is =
    let next = c.in-Some.ensures in
    table_refused c.args.self.now c.args.text.now _ c.bytes.result.now c.in-Some.next.table (c.bytes.ensures.value ∙ c.station-name.ensures.name) next.2 next.0 next.1 (c.in-Err.ensures.refused is)

pub returns-in-Err-store-clause-refused : goal.returns-in-Err-store-clause-refused
returns-in-Err-store-clause-refused c is =
    let next = c.in-Some-read_store.ensures in
    store_refused c.args.self.now c.args.text.now _ c.bytes-2.result.now _ _ (c.bytes-2.ensures.value ∙ c.station-name.ensures.name) (λ t more is line. c.in_default.ensures t more is (line ∙ ap (λ w. table_line w t more) (c.bytes-2.ensures.value ∙ sym c.bytes.ensures.value))) next.2 next.0 next.1 c.in-Err-store.ensures.refused

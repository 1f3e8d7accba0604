use Rattle.std.proofs.Common.{◌∙◌, ap, sym, subst}
use Rattle.pb_script.specs.ScriptText.{Says, Head, self_line}
use Rattle.pb_script.proofs.reading.read_draft.Goals as goal

pub returns-in-Ok-clause-found : goal.returns-in-Ok-clause-found
returns-in-Ok-clause-found c =
    let head = c.in-Some-read_station.ensures in
    c.in-Ok.ensures.read c.args.text.now (subst (λ s. Says c.args.text.now 2 s c.in-Some-read_station.next.rest.now) (sym c.new-draft.ensures)
    (Head head.0 (c.in-Some.ensures.1 ∙ ap (self_line c.in-Some.asker.me) head.1)))

pub returns-in-Err-clause-refused : goal.returns-in-Err-clause-refused
returns-in-Err-clause-refused c =
    let head = c.in-Some-read_station.ensures in
    c.in-Err.ensures.refused c.args.text.now (subst (λ s. Says c.args.text.now 2 s c.in-Some-read_station.next.rest.now) (sym c.new-draft.ensures)
    (Head head.0 (c.in-Some.ensures.1 ∙ ap (self_line c.in-Some.asker.me) head.1)))

use Rattle.std.proofs.Common.{sym, ◌∙◌, ap, ◌++◌}
use Rattle.std.proofs.lemmas.List.{append_cancel_left}
use Rattle.pb_script.proofs.words.after_station.Goals as goal

pub returns-in-None-after : goal.returns-in-None-after
returns-in-None-after c rest is =
    c.in-None-after.ensures _ (append_cancel_left c.args.word.now _ _ (sym c.in-Some.ensures ∙ is))

pub returns-in-None-after-2 : goal.returns-in-None-after-2
returns-in-None-after-2 c rest is =
    let one = append_cancel_left c.args.word.now _ _ (sym c.in-Some.ensures ∙ is) in
    c.in-None-after-2.ensures rest (append_cancel_left c.args.station.now _ _ (sym c.in-Some-after.ensures ∙ one))

pub returns-in-Some-after-2 : goal.returns-in-Some-after-2
returns-in-Some-after-2 c =
    c.in-Some.ensures ∙ ap (λ l. c.args.word.now ++ l) (c.in-Some-after.ensures ∙ ap (λ l. c.args.station.now ++ l) c.in-Some-after-2.ensures)

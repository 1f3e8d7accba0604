use Rattle.std.proofs.Common.{Ok, ◌≤◌, ◌-◌, min, ℕ, sym, ap, subst, ◌∙◌, arith}
use Rattle.pb_base.specs.declared.layout.Layout.{Layout}
use Rattle.pb_base.specs.Record.{content_len}
use Rattle.pb_station.specs.Collect.{Collected, room_of}
use Rattle.pb_station.specs.Inside.Commands.{IsCollected}
use Rattle.pb_station.proofs.AnswerLemmas.{records-answer}
use Rattle.pb_station.proofs.collect.answer_run.Goals as goal

pub returns-clause-sends : goal.returns-clause-sends
returns-clause-sends c = λ all stands.
    let layout = c.args.held.now.layout in
    let fits : content_len layout ≤ 960 = subst (λ (l : Layout). content_len l ≤ 960) c.layout.ensures.value (omega arith) in
    let count = c.min-count.ensures ∙ ap (λ (n : ℕ). min n (c.args.run.to - c.args.run.from)) (c.room_of.ensures.room ∙ ap room_of c.layout-2.ensures.value) in
    subst (λ (x : Collected). IsCollected x c.args.table.0 c.args.body.now c.write_records.new.out (Ok c.write_records.result))
    (sym (records-answer all c.args.run.from c.args.run.to c.min-count.result layout (omega arith) stands.layout fits count))
    (c.write_records.ensures.written all.stored stands.stored)

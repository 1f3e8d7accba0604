use Rattle.std.proofs.Common.{Err, Option, refl, sym, subst}
use Rattle.pb_station.specs.State.{Table}
use Rattle.pb_station.specs.Collect.{of_table}
use Rattle.pb_station.specs.Inside.Commands.{IsCollected, collect_keys}
use Rattle.pb_station.proofs.TableLemmas.{none-numbered, some-numbered}
use Rattle.pb_station.proofs.collect.collect.Goals as goal

pub returns-in_default-clause-collected : goal.returns-in_default-clause-collected
returns-in_default-clause-collected c = λ all stand code.
    let e = none-numbered c.args.tables.now all c.args.asked.table.0 stand (sym c.in_default.ensures) in
    subst (λ (o : Option Table). IsCollected (of_table o (collect_keys code c.args.asked)) c.args.asked.table.0 c.args.body.now c.args.body.now (Err 7)) (sym e) refl

pub returns-clause-collected : goal.returns-clause-collected
returns-clause-collected c = λ all stand code.
    let f = some-numbered c.args.tables.now all c.args.asked.table.0 c.in-Some.held.now stand (sym c.in-Some.ensures) in
    subst (λ (o : Option Table). IsCollected (of_table o (collect_keys code c.args.asked)) c.args.asked.table.0 c.args.body.now c.answer_table.new.body c.answer_table.result) (sym f.is)
    (c.answer_table.ensures.collected f.table f.stands code)

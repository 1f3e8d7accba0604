use Rattle.std.proofs.Common.{Result, sym, subst}
use Rattle.pb_base.specs.declared.message.MessageFault.{MessageFault}
use Rattle.pb_layout.proofs.LayoutLaws.{reading-only}
use Rattle.pb_bmp5.specs.Message.{Message, message_of, layout, keys}
use Rattle.pb_station.specs.State.{State}
use Rattle.pb_station.specs.Answer.{heard, to_bmp5}
use Rattle.pb_station.specs.Inside.Answered.{IsGiven}
use Rattle.pb_station.proofs.bmp5_answers.answer_bmp5.Goals as goal

pub returns-in-Ok-clause-answered : goal.returns-in-Ok-clause-answered
returns-in-Ok-clause-answered c = λ all stand.
    let device = c.args.device.now in
    let state : State = record { device = device; tables = all } in
    let e = reading-only layout keys c.args.message.now (message_of c.in-Ok.read) c.in-Ok.ensures.found in
    subst (λ (r : Result Message MessageFault). IsGiven (heard device c.args.header.now c.args.message.now (to_bmp5 state) r) device c.answer_to_bmp5.new.device c.args.header.now c.args.out.now c.answer_to_bmp5.new.out c.answer_to_bmp5.result)
    (sym e) (c.answer_to_bmp5.ensures.answered all stand)

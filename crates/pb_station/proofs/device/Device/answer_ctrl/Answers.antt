use Rattle.std.proofs.Common.{Result, sym, subst}
use Rattle.pb_base.specs.declared.message.MessageFault.{MessageFault}
use Rattle.pb_layout.proofs.LayoutLaws.{reading-only}
use Rattle.pb_ctrl.specs.Message.{Message, message_of, layout, keys}
use Rattle.pb_station.specs.Answer.{heard, to_ctrl}
use Rattle.pb_station.specs.Inside.Answered.{IsGiven}
use Rattle.pb_station.proofs.device.Device.answer_ctrl.Goals as goal

pub returns-in-Ok-clause-answered : goal.returns-in-Ok-clause-answered
returns-in-Ok-clause-answered c =
    let device = c.args.self.now in
    let e = reading-only layout keys c.args.message.now (message_of c.in-Ok.read) c.in-Ok.ensures.found in
    subst (λ (r : Result Message MessageFault). IsGiven (heard device c.args.header.now c.args.message.now (to_ctrl device) r) device c.answer_to_ctrl.new.self c.args.header.now c.args.out.now c.answer_to_ctrl.new.out c.answer_to_ctrl.result)
    (sym e) c.answer_to_ctrl.ensures.answered

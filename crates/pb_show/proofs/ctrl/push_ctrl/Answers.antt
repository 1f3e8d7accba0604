use Rattle.std.proofs.Common.{sym, ap, Result}
use Rattle.pb_base.specs.declared.message.MessageFault.{MessageFault}
use Rattle.pb_ctrl.specs.Message.{Message, message_of, layout, keys}
use Rattle.pb_io.proofs.PageLemmas.{Adds-as}
use Rattle.pb_layout.proofs.LayoutLaws.{reading-only}
use Rattle.pb_show.specs.MessageText.{ctrl_text, read_text, is_malformed, shown_ctrl, is_malformed_ctrl}
use Rattle.pb_show.proofs.ctrl.push_ctrl.Goals as goal

pub returns-in-Ok-clause-text : goal.returns-in-Ok-clause-text
unfolding shown_ctrl
returns-in-Ok-clause-text g c =
    Adds-as _ _ _ _ (ap (λ (r : Result Message MessageFault). read_text ctrl_text c.args.message.now r) (sym (reading-only layout keys c.args.message.now (message_of c.in-Ok.read) c.in-Ok.ensures.found)))
    c.push_read.ensures

pub returns-in-Ok-clause-damaged : goal.returns-in-Ok-clause-damaged
unfolding is_malformed_ctrl
returns-in-Ok-clause-damaged g c =
    ap (λ (r : Result Message MessageFault). is_malformed r) (sym (reading-only layout keys c.args.message.now (message_of c.in-Ok.read) c.in-Ok.ensures.found))

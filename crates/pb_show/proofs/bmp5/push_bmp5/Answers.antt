use Rattle.std.proofs.Common.{sym, ap, Result}
use Rattle.pb_base.specs.declared.message.MessageFault.{MessageFault}
use Rattle.pb_bmp5.specs.Message.{Message, message_of, layout, keys}
use Rattle.pb_io.proofs.PageLemmas.{Adds-as}
use Rattle.pb_layout.proofs.LayoutLaws.{reading-only}
use Rattle.pb_show.specs.MessageText.{bmp5_text, read_text, is_malformed, shown_bmp5, is_malformed_bmp5}
use Rattle.pb_show.proofs.bmp5.push_bmp5.Goals as goal

pub returns-in-Ok-clause-text : goal.returns-in-Ok-clause-text
unfolding shown_bmp5
returns-in-Ok-clause-text g c =
    Adds-as _ _ _ _ (ap (λ (r : Result Message MessageFault). read_text bmp5_text c.args.message.now r) (sym (reading-only layout keys c.args.message.now (message_of c.in-Ok.read) c.in-Ok.ensures.found)))
    c.push_read.ensures

pub returns-in-Ok-clause-damaged : goal.returns-in-Ok-clause-damaged
unfolding is_malformed_bmp5
returns-in-Ok-clause-damaged g c =
    ap (λ (r : Result Message MessageFault). is_malformed r) (sym (reading-only layout keys c.args.message.now (message_of c.in-Ok.read) c.in-Ok.ensures.found))

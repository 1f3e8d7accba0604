use Rattle.pb_layout.proofs.LayoutLaws.{written-is-read}
use Rattle.pb_ctrl.specs.Message.{layout, keys}
use Rattle.pb_ctrl.proofs.MessageLaws.{ends}
use Rattle.pb_ctrl.proofs.laws.written_message_is_read.Goals as goal

pub returns : goal.returns
returns c = written-is-read layout keys ends

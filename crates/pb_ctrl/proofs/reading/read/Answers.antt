use Rattle.std.proofs.Common.{arith}
use Rattle.pb_layout.proofs.TypedLaws.{is_read}
use Rattle.pb_ctrl.specs.Message.{message_of, of_type, keys, types}
use Rattle.pb_ctrl.proofs.MessageLaws.{keys-made, known, unknown}
use Rattle.pb_ctrl.proofs.reading.read.Goals as goal

pub returns : goal.returns
returns c =
    is_read of_type keys types message_of keys-made known unknown c.args.message.now c.read_all.result (λ i. omega (arith, c.type_inv.message i)) c.read_all.ensures

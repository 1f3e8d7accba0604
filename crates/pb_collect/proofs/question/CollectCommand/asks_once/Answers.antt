use Rattle.std.proofs.Common.{refl}
use Rattle.pb_bmp5.specs.Message.{Collect}
use Rattle.pb_collect.specs.Command.{header_to}
use Rattle.pb_collect.specs.Question.{contact_in, command_keys, command_message, command_content, command_frame}
use Rattle.pb_collect.proofs.CommandLemmas.{content_packet}
use Rattle.pb_collect.proofs.QuestionLemmas.{valid, content_size}
use Rattle.pb_collect.proofs.question.CollectCommand.asks_once.Goals as goal

pub returns : goal.returns
unfolding command_frame
returns c r is =
    let a = c.args.self.now in
    c.written_frames_ask_once.ensures.one (command_content a) (command_message a) (header_to (contact_in a)) a.tran (command_keys a) r (content_size a)
    (content_packet (contact_in a) (command_message a) c.get.ensures.range c.get-2.ensures.range c.get-3.ensures.range)
    (c.written_message_is_read.ensures.alone (Collect a.tran (command_keys a)) (command_message a)
    (record { valid = valid a.tran a.code a.mode a.table.0 a.sig; fits = c.write_message.ensures.in_range; is = refl })) is

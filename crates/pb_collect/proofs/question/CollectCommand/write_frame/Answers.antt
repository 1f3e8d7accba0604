use Rattle.std.proofs.Common.{ap, ◌∙◌}
use Rattle.pb_frame.specs.Framing.{frame}
use Rattle.pb_collect.specs.Command.{content_to, frame_to}
use Rattle.pb_collect.specs.Question.{command_frame, contact_in}
use Rattle.pb_collect.proofs.question.CollectCommand.write_frame.Goals as goal

pub returns-clause-frame : goal.returns-clause-frame
unfolding command_frame frame_to
returns-clause-frame c =
    c.write_command.ensures.frame ∙ ap (λ l. frame (content_to (contact_in c.args.self.now) l)) c.write_message-len.ensures.message

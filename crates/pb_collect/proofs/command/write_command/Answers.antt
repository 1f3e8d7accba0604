use Rattle.pb_collect.proofs.CommandLemmas.{framed}
use Rattle.pb_collect.proofs.command.write_command.Goals as goal

pub returns-clause-frame : goal.returns-clause-frame
returns-clause-frame c =
    framed c.args.contact.now c.args.message.now _ _ _ _ _ _ _ _ _ c.header.ensures c.write.ensures.written c.unwrap-len.ensures c.frame_into.ensures.length c.frame_into.ensures.ok c.unwrap.ensures

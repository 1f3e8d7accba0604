use Rattle.pb_collect.proofs.QuestionLemmas.{valid, short, fits, within}
use Rattle.pb_collect.proofs.question.CollectCommand.write_message.Goals as goal

pub write-requires : goal.write-requires
write-requires c = let a = c.args.self.now in valid a.tran a.code a.mode a.table.0 a.sig

pub unwrap-requires : goal.unwrap-requires
unwrap-requires c =
    let a = c.args.self.now in
    fits c.write.result _ _ _ (short a.tran a.code a.mode a.table.0 a.sig) c.requires c.write.ensures.full

pub returns-clause-within : goal.returns-clause-within
returns-clause-within c =
    let a = c.args.self.now in
    within c.write.result _ _ _ c.unwrap.result (short a.tran a.code a.mode a.table.0 a.sig) c.write.ensures.written c.unwrap.ensures

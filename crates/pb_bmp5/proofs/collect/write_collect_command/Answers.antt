use Rattle.std.proofs.Common.{IfOk, OnErr, rules}
use Rattle.pb_base.specs.Put.{IsWritten, DoesNotFit}
use Rattle.pb_bmp5.proofs.ReplyLaws.{collect_bytes, collect_fits}
use Rattle.pb_bmp5.proofs.collect.write_collect_command.Goals as goal

pub returns-clause-written : goal.returns-clause-written
returns-clause-written c =
    collect_bytes c.args.tran c.args.code c.args.table.0 c.args.sig c.asked_by-asked.result.number c.args.mode c.args.fields.now _ _
    (λ b. IfOk c.write_pieces.result (IsWritten b c.args.out.now c.write_pieces.new.out)) c.asked_by-asked.ensures.number c.asked_by-asked.ensures.parameters c.write_pieces.ensures.written

pub returns-clause-full : goal.returns-clause-full
returns-clause-full c =
    collect_bytes c.args.tran c.args.code c.args.table.0 c.args.sig c.asked_by-asked.result.number c.args.mode c.args.fields.now _ _
    (λ b. OnErr c.write_pieces.result (DoesNotFit b c.args.out.now c.write_pieces.new.out)) c.asked_by-asked.ensures.number c.asked_by-asked.ensures.parameters c.write_pieces.ensures.full

pub returns-clause-in_range : goal.returns-clause-in_range
returns-clause-in_range c =
    collect_fits c.args.tran c.args.code c.args.table.0 c.args.sig c.args.mode c.args.fields.now (search rules) (search rules) (search rules) (search rules) c.asked_by-asked.ensures.in_range

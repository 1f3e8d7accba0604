use Rattle.std.proofs.Common.{arith}
use Rattle.pb_archive.specs.Opened.{register_of}
use Rattle.pb_tool.proofs.CheckLemmas.{lines-none, lines-next, lines-all, there}
use Rattle.pb_tool.proofs.check.push_tables.Goals as goal

pub loop-id-init : goal.loop-id-init
loop-id-init g c = lines-none c.args.archive.now.plan _

pub loop-id-preserved : goal.loop-id-preserved
loop-id-preserved g c =
    let t = there c.args.archive.now.tables c.loop-id.id (omega arith) in
    lines-next c.args.archive.now.plan c.args.archive.now.tables c.loop-id.id t.0 _ _ _ t.1 c.loop-id.invariant (c.push_table_at.ensures t.0 t.1)

pub returns : goal.returns
returns g c = lines-all (register_of c.args.archive.now) c.loop-id.id _ _ (omega arith) c.loop-id.invariant

use Rattle.std.proofs.Common.{arith}
use Rattle.pb_csv.proofs.ColumnsLemmas.{HasNames-none, HasNames-field, never_none}
use Rattle.pb_csv.proofs.columns.Columns.of.Goals as goal

pub loop-at-init : goal.loop-at-init
loop-at-init c = HasNames-none _ c.new.ensures.items c.new-2.ensures.items

pub unreachable-requires : goal.unreachable-requires
unreachable-requires c = never_none c.args.table.now.fields c.loop-at.at (omega arith) c.in-None.ensures

pub loop-at-preserved : goal.loop-at-preserved
loop-at-preserved c =
    HasNames-field _ c.args.table.now.fields c.loop-at.at _ c.in-Some.ensures (c.in_ok-push_field-in-Some.ensures _ c.loop-at.invariant)

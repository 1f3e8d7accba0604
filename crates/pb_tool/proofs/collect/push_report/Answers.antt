use Rattle.std.proofs.Common.{length, arith}
use Rattle.pb_io.proofs.PageLemmas.{Adds-as, Adds-nothing}
use Rattle.pb_tool.proofs.CollectLemmas.{outcome_below, report_all, report_more}
use Rattle.pb_tool.proofs.collect.push_report.Goals as goal

pub push_outcome_at-requires : goal.push_outcome_at-requires
push_outcome_at-requires g c =
    outcome_below c.args.outcomes.now c.loop-outcome.outcome-index (length c.args.archive.now.tables) _ c.requires.order c.requires.there c.loop-outcome-test.true

pub loop-outcome-init : goal.loop-outcome-init
loop-outcome-init g c = Adds-nothing _

pub loop-outcome-preserved : goal.loop-outcome-preserved
loop-outcome-preserved g c =
    report_more c.args.archive.now.plan c.args.archive.now.tables c.args.outcomes.now c.loop-outcome.outcome-index _ _ _ _ c.requires.order c.requires.there
    c.loop-outcome-test.true c.loop-outcome.invariant c.push_outcome_at.ensures

pub returns : goal.returns
returns g c =
    Adds-as _ _ _ _ (report_all c.args.archive.now.plan c.args.archive.now.tables c.args.outcomes.now c.loop-outcome.outcome-index (omega (arith, c.loop-outcome-test.false)))
    c.loop-outcome.invariant

use Rattle.std.proofs.Common.{rules}
use Rattle.pb_tool.proofs.TakesLemmas.{TakesIn-none, TakesIn-more, TakesIn-all}
use Rattle.pb_tool.proofs.show.Show.take_all.Goals as goal

pub loop-done-init : goal.loop-done-init
loop-done-init g c = record { within = search rules; takes = TakesIn-none c.args.self.now _ }

pub loop-done-preserved : goal.loop-done-preserved
loop-done-preserved g c = record {
  within = search rules;
  takes = TakesIn-more c.args.bytes.now c.loop-done.done _ c.args.self.now c.loop-done.self _ _ _ _ c.loop-done.invariant.takes c.push_run-done.ensures.takes;
}

pub returns : goal.returns
returns g c = TakesIn-all c.args.bytes.now c.loop-done.done c.args.self.now c.loop-done.self _ _ c.loop-done-test.false c.loop-done.invariant.takes

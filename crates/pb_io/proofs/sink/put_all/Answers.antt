use Rattle.std.proofs.Common.{rules, arith}
use Rattle.std.proofs.lemmas.List.{take_rest}
use Rattle.pb_io.proofs.SinkLemmas.{AppendsPrefix-kept, Appends-more, OnErr-anyway}
use Rattle.pb_io.proofs.sink.put_all.Goals as goal

pub returns-in_err-done-clause-prefix : goal.returns-in_err-done-clause-prefix
returns-in_err-done-clause-prefix g c =
    OnErr-anyway _ _ (AppendsPrefix-kept _ _ _ c.loop-done.done _ c.loop-done.invariant.bytes c.in_err-done.ensures.bytes)

pub loop-done-preserved : goal.loop-done-preserved
loop-done-preserved g c = record {
  within = search rules;
  bytes = Appends-more _ _ _ _ _ _ c.loop-done.invariant.bytes (rw take_rest at c.in_ok-done.ensures.bytes);
  kept = omega (arith, c.in_ok-done.ensures.cause.kept);
}

use Rattle.std.proofs.Common.{◌≡◌}
use Rattle.pb_collect.specs.Progress.{CanTakeAll}
use Rattle.pb_collect_tests.proofs.tests.takes.Given as goal

abbrev pub invariant-loop-fragment : goal.invariant-loop-fragment
invariant-loop-fragment l = record {
  can : CanTakeAll l.progress l.fragment-iterator;
  layout : l.progress.layout ≡ l.initial.progress.layout;
  asked : l.progress.asked ≡ l.initial.progress.asked;
}

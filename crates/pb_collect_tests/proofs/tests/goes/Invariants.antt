use Rattle.std.proofs.Common.{◌≡◌, ◌≤◌}
use Rattle.pb_collect_tests.specs.declared.tests.TheConstants.{EVENTS}
use Rattle.pb_collect.specs.Progress.{question}
use Rattle.pb_collect_tests.proofs.tests.goes.Given as goal

abbrev pub invariant-loop-message : goal.invariant-loop-message
invariant-loop-message l = record {
  layout : l.progress.layout ≡ EVENTS;
  asked : l.mode ≡ question l.progress;
  within : l.progress.asked ≤ l.budget;
}

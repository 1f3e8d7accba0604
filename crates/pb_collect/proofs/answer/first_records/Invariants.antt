use Rattle.std.proofs.Common.{◌≡◌}
use Rattle.pb_collect.specs.Inside.{first_records}
use Rattle.pb_collect.proofs.answer.first_records.Given as goal

abbrev pub invariant-loop-fragment : goal.invariant-loop-fragment
invariant-loop-fragment l = first_records l.fragments ≡ first_records l.initial.fragments

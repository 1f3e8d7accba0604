use Rattle.std.proofs.Common.{◌≡◌, take}
use Rattle.pb_journal.specs.Entries.{header}
use Rattle.pb_journal.proofs.opening.first_difference.Given as goal

abbrev pub invariant-loop-at : goal.invariant-loop-at
invariant-loop-at l = take l.at l.prefix ≡ take l.at header

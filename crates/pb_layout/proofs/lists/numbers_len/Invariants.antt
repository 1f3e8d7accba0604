use Rattle.std.proofs.Common.{◌≡◌, ◌+◌, ◌-◌, ◌≤◌, length}
use Rattle.pb_layout.specs.Inside.{numbers_len}
use Rattle.pb_layout.proofs.lists.numbers_len.Given as goal

abbrev pub invariant-loop-left : goal.invariant-loop-left
invariant-loop-left l = record {
  so_far : numbers_len l.bytes ≡ length l.bytes - length l.left + numbers_len l.left;
  within : length l.left ≤ length l.bytes;
}

abbrev pub decreases-loop-left : goal.decreases-loop-left
decreases-loop-left l = length l.left

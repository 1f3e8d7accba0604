use Rattle.std.proofs.Common.{◌≡◌, ◌++◌, length, drop}
use Rattle.pb_value.specs.TimeText.{digits}
use Rattle.pb_value.proofs.number.digits_into.Given as goal

abbrev pub invariant-loop-i : goal.invariant-loop-i
invariant-loop-i l = digits l.i l.rest ++ drop l.i l.out ≡ digits (length l.out) l.n

use Rattle.std.proofs.Common.{◌≡◌, ◌*◌, take}
use Rattle.pb_value.specs.Hex.{hex}
use Rattle.pb_value.proofs.hex.hex_digits_into.Given as goal

abbrev pub invariant-loop-i : goal.invariant-loop-i
invariant-loop-i l = take (2 * l.i) l.out ≡ hex (take l.i l.bytes)

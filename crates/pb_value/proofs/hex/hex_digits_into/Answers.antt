use Rattle.std.proofs.Common.{arith, refl}
use Rattle.pb_value.specs.Hex.{hex}
use Rattle.pb_value.proofs.HexLemmas.{hex-more}
use Rattle.pb_value.proofs.hex.hex_digits_into.Goals as goal

pub loop-i-init : goal.loop-i-init
unfolding hex
loop-i-init c = refl

pub loop-i-preserved : goal.loop-i-preserved
loop-i-preserved c =
    rw (c.digit.ensures, c.digit-in-loop-i.ensures) (hex-more c.args.bytes.now c.loop-i.out c.loop-i.i c.loop-i-test.true (omega arith) c.loop-i.invariant)

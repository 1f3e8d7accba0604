use Rattle.std.proofs.Common.{arith}
use Rattle.pb_value.proofs.HexLemmas.{length-hex}
use Rattle.pb_value.proofs.hex.hex_into.Goals as goal

pub returns-clause-short : goal.returns-clause-short
returns-clause-short c = omega (arith, length-hex c.args.bytes.now)

use Rattle.std.proofs.Common.{arith}
use Rattle.std.proofs.lemmas.Fmt.{length-decimal-le}
use Rattle.pb_value.proofs.number.unsigned_into.Goals as goal

pub returns-clause-short : goal.returns-clause-short
returns-clause-short c = length-decimal-le 10 c.args.n (omega arith) (omega arith) (omega arith)

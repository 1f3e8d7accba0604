use Rattle.pb_value.proofs.Fp2Lemmas.{length-fp2_text}
use Rattle.pb_value.proofs.fp2.fp2_into.Goals as goal

pub returns-in_default-clause-short : goal.returns-in_default-clause-short
returns-in_default-clause-short c = length-fp2_text c.args.word

use Rattle.std.proofs.Common.{arith}
use Rattle.std.proofs.lemmas.Grind.{common_steps}
use Rattle.pb_frame.proofs.SignatureLemmas.{sig-nil, sig-more}
use Rattle.pb_frame.proofs.signing.Signer.steps.Goals as goal

pub loop-byte-init : goal.loop-byte-init
loop-byte-init c = grind (arith, common_steps, sig-nil)

pub loop-byte-preserved : goal.loop-byte-preserved
loop-byte-preserved c = sig-more _ _ _ _ _ (omega arith) c.loop-byte.invariant c.step-sum.ensures

use Rattle.std.proofs.Common.{arith, rules}
use Rattle.pb_frame.proofs.SignatureLemmas.{sig-more_set}
use Rattle.pb_frame.proofs.unframer.Unframer.keep.Goals as goal

pub invariant_of-self-2 : goal.invariant_of-self-2
invariant_of-self-2 c = record {
  room = omega arith;
  signed = sig-more_set _ _ _ _ _ _ (omega (arith, c.self.told)) c.self.invariant.signed c.step-self-inside.ensures;
  size = search rules;
  some = search rules;
}

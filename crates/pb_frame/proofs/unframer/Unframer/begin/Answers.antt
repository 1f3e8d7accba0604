use Rattle.std.proofs.Common.{arith, rules}
use Rattle.std.proofs.lemmas.Grind.{common_steps}
use Rattle.pb_frame.proofs.SignatureLemmas.{sig-nil}
use Rattle.pb_frame.proofs.unframer.Unframer.begin.Goals as goal

pub invariant_of-self-2 : goal.invariant_of-self-2
invariant_of-self-2 c = record {
  room = omega arith;
  signed = grind (arith, common_steps, sig-nil);
  size = search rules;
  some = search rules;
}

use Rattle.std.proofs.Common.{arith, rules, sym, ◌∙◌}
use Rattle.pb_frame.specs.Signature.{start}
use Rattle.pb_frame.proofs.SignatureLemmas.{sig-nil}
use Rattle.pb_frame.proofs.FollowsLemmas.{verdicts-nil, unfinished-nil}
use Rattle.pb_frame.proofs.unframer.Unframer.new.Goals as goal

pub invariant_of-result : goal.invariant_of-result
invariant_of-result c = record {
  room = omega arith;
  signed = c.new.ensures ∙ sym (sig-nil start);
  size = search rules;
  some = search rules;
}

pub returns-clause-verdicts : goal.returns-clause-verdicts
returns-clause-verdicts c = verdicts-nil

pub returns-clause-unfinished : goal.returns-clause-unfinished
returns-clause-unfinished c = unfinished-nil

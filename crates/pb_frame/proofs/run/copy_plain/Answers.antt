use Rattle.std.proofs.Common.{◌≡◌, ℕ, ◌+◌, ◌-◌, ◌*◌, ◌<◌, List, [], ◌∷◌, ◌++◌, length, take, drop, get_or, refl, ap, ap₂, sym, subst, ◌∙◌, All, arith, rules}
use Rattle.std.proofs.lemmas.Grind.{common_steps}
use Rattle.std.proofs.lemmas.List.{take_more, take_more_set}
use Rattle.std.proofs.lemmas.List.Elements.{All-append, All-more, All-nil}
use Rattle.std.proofs.lemmas.Slice.{take-put_mid}
use Rattle.std.proofs.Math.Seq.{take-add}
use Rattle.pb_frame.specs.Framing.{IsPlain}
use Rattle.pb_frame.specs.Signature.{sig}
use Rattle.pb_frame.proofs.SignatureLemmas.{sig-append, sig-nil, sig-more}
use Rattle.pb_frame.proofs.run.copy_plain.Goals as goal

pub loop-done-init : goal.loop-done-init
loop-done-init c = record {
  within = omega arith;
  plain = All-nil IsPlain;
  copied = grind (arith, common_steps);
  signed = grind (arith, common_steps, sig-nil);
}

-- the bytes up to the end of a group are those before it and the group
group_after : (bytes : List ℕ) (i n : ℕ) → take (i + n) bytes ≡ take i bytes ++ take (i + n - i) (drop i bytes)
group_after bytes i n =
    let same : n ≡ i + n - i = omega arith in
    take-add i n bytes ∙ ap (λ k. take i bytes ++ take k (drop i bytes)) same

pub loop-done-preserved : goal.loop-done-preserved
loop-done-preserved c =
    let i = c.loop-done.done in
    let bytes = c.args.bytes.now in
    let group = take (i + 8 - i) (drop i bytes) in
    let split : take (i + 8) bytes ≡ take i bytes ++ group = group_after bytes i 8 in
    let start = 256 * c.args.signer.now.high + c.args.signer.now.low in
    record {
      within = omega arith;
      plain = subst (All IsPlain) (sym split) (All-append IsPlain (take i bytes) group c.loop-done.invariant.plain (c.if-not-are_plain.ensures refl));
      copied = take-put_mid i (i + 8 - i) c.loop-done.room _ (i + 8) (omega (arith, c.copy_from_slice.ensures.len)) (omega arith) ∙ ap₂ (λ (a b : List ℕ). a ++ b) c.loop-done.invariant.copied c.copy_from_slice.ensures.after ∙ sym split;
      signed = c.steps-sum.ensures ∙ ap (sig group) c.loop-done.invariant.signed ∙ sym (ap (λ t. sig t start) split ∙ sig-append (take i bytes) group start);
    }

pub loop-done-2-preserved : goal.loop-done-2-preserved
loop-done-2-preserved c =
    let i = c.loop-done-2.done in
    let bytes = c.args.bytes.now in
    let below : i < length bytes = omega arith in
    let room : i < length c.loop-done-2.room = omega arith in
    record {
      within = omega arith;
      plain = All-more IsPlain _ _ 0 below c.loop-done-2.invariant.plain (search rules);
      copied = take_more_set c.loop-done-2.room i (get_or bytes i 0) room ∙ ap (λ t. t ++ get_or bytes i 0 ∷ []) c.loop-done-2.invariant.copied ∙ sym (take_more bytes i 0 below);
      signed = sig-more _ _ _ _ _ below c.loop-done-2.invariant.signed c.step-sum.ensures;
    }

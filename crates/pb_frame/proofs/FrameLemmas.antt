-- A written frame is heard as its content, whatever stands before it.
use Rattle.std.proofs.Common.{◌≡◌, ◌≢◌, ℕ, ◌+◌, ◌-◌, ◌<◌, inl, inr, true, List, [], ◌∷◌, ◌++◌, length, None, refl, sym, ◌∙◌, ap, arith, append_assoc, length-append}
use Rattle.std.proofs.lemmas.List.{append-nil, take_at}
use Rattle.std.proofs.lemmas.List.Elements.{All-nil}
use Rattle.pb_frame.specs.Signature.{start, sig, null}
use Rattle.pb_frame.specs.Framing.{flag, quoted, frame, IsContentSize, IsGoodBody, content_of, Whole, verdicts, unfinished}
use Rattle.pb_frame.proofs.SignatureLemmas.{sig-append, sig-bound, sig-null}
use Rattle.pb_frame.proofs.QuotedLemmas.{Quoted-quoted, no_flag-quoted, length-quoted}
use Rattle.pb_frame.proofs.SplitLemmas.{verdicts-ended, judged-nil, judged-some, unfinished-behind}
use Rattle.pb_frame.proofs.ReadLemmas.{good-outcome}

pub nullified : (content : List ℕ) → sig (content ++ null (sig content start)) start ≡ 0
nullified content = sig-append content (null (sig content start)) start ∙ sig-null (sig content start) (sig-bound content start (omega arith))

-- the body of a written frame
content-back : (content : List ℕ) (a b : ℕ) → content_of (content ++ a ∷ b ∷ []) ≡ content
content-back content a b = take_at content (a ∷ b ∷ []) _ (sym (ap (λ n. n - 2) (length-append content (a ∷ b ∷ [])) ∙ omega arith))

good-frame : (content : List ℕ) → IsContentSize (length content) → IsGoodBody (quoted (content ++ null (sig content start))) (content ++ null (sig content start))
good-frame content size =
    let body = content ++ null (sig content start) in
    let long : length body ≡ length content + 2 = length-append content (null (sig content start)) in
    record {
      stands = Quoted-quoted body;
      size = elim size [ inl four ↦ inl (omega arith) | inr big ↦ inr (omega arith, omega arith) ];
      signed = nullified content;
    }

-- a written frame is heard as its content
pub frame-heard : (front content : List ℕ) → IsContentSize (length content)
    → verdicts (front ++ frame content) ≡ verdicts (front ++ flag ∷ []) ++ record { piece = length front + 1; outcome = Whole content } ∷ []
frame-heard front content size =
    let body = content ++ null (sig content start) in
    let long : length body ≡ length content + 2 = length-append content (null (sig content start)) in
    let some : 0 < length (quoted body) = omega (arith, length-quoted body) in
    verdicts-ended front (quoted body) (no_flag-quoted body)
    ∙ ap (λ vs. verdicts (front ++ flag ∷ []) ++ vs)
    (judged-some (length front + 1) (quoted body) true (Whole (content_of body)) some (good-outcome (record { at = length front + 1; text = quoted body; ended = true }) body refl (good-frame content size))
    ∙ ap (λ t. record { piece = length front + 1; outcome = Whole t } ∷ []) (content-back content _ _))

pub frame-closed : (front content : List ℕ) → unfinished (front ++ frame content) ≡ None
frame-closed front content =
    let text = quoted (content ++ null (sig content start)) in
    ap unfinished (sym (append_assoc front (flag ∷ text) (flag ∷ []))) ∙ unfinished-behind (front ++ flag ∷ text)

-- and where a flag byte stands before it, as behind another frame, it adds that alone
pub frame-heard_next : (front content : List ℕ) → IsContentSize (length content)
    → verdicts ((front ++ flag ∷ []) ++ frame content) ≡ verdicts (front ++ flag ∷ []) ++ record { piece = length front + 2; outcome = Whole content } ∷ []
frame-heard_next front content size =
    let empty : verdicts ((front ++ flag ∷ []) ++ flag ∷ []) ≡ verdicts (front ++ flag ∷ []) =
    ap verdicts (append_assoc front (flag ∷ []) (flag ∷ [])) ∙ verdicts-ended front [] (All-nil (λ byte. byte ≢ flag))
    ∙ ap (λ vs. verdicts (front ++ flag ∷ []) ++ vs) (judged-nil (length front + 1) true) ∙ append-nil (verdicts (front ++ flag ∷ [])) in
    let place : length (front ++ flag ∷ []) + 1 ≡ length front + 2 = omega (arith, length-append front (flag ∷ [])) in
    frame-heard (front ++ flag ∷ []) content size
    ∙ ap (λ vs. vs ++ record { piece = length (front ++ flag ∷ []) + 1; outcome = Whole content } ∷ []) empty
    ∙ ap (λ n. verdicts (front ++ flag ∷ []) ++ record { piece = n; outcome = Whole content } ∷ []) place

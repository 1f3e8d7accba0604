use Rattle.std.proofs.Common.{◌≡◌, ℕ, ◌+◌, ◌<◌, List, [], ◌∷◌, ◌++◌, length, drop, set, refl, sym, ◌∙◌, ap, arith, length-append}
use Rattle.std.proofs.lemmas.Bool.{false≢true}
use Rattle.pb_frame.specs.Signature.{start, sig, null}
use Rattle.pb_frame.specs.Framing.{flag, quoted, frame}
use Rattle.pb_frame.proofs.QuotedLemmas.{quoted-append, length-frame}
use Rattle.pb_frame.proofs.RunLemmas.{put-byte, put-next}
use Rattle.pb_frame.proofs.writer.frame_into.Goals as goal

-- the length of the frame over the nullifier's bytes
length-with : (content ends : List ℕ) (sum : ℕ) → ends ≡ null sum → sum ≡ sig content start → length (frame content) ≡ length (quoted content) + length (quoted ends) + 2
length-with content ends sum e f = length-frame content ∙ ap (λ t. length (quoted content) + length (quoted t) + 2) (sym (e ∙ ap null f))

frame-with : (content ends : List ℕ) (sum : ℕ) → ends ≡ null sum → sum ≡ sig content start → ((flag ∷ []) ++ quoted content ++ quoted ends) ++ flag ∷ [] ≡ frame content
frame-with content ends sum e f = ap (λ t. flag ∷ (t ++ flag ∷ [])) (sym (quoted-append content ends) ∙ ap (λ t. quoted (content ++ t)) (e ∙ ap null f))

pub returns-then-out-size-clause-full : goal.returns-then-out-size-clause-full
returns-then-out-size-clause-full c =
    let long = length-with _ _ _ c.nullifier-ends.ensures c.signature.ensures in
    (λ _. omega (arith, long, c.quoted_length.ensures.value, c.quoted_length-2.ensures.value), λ _. refl)

pub returns-clause-length : goal.returns-clause-length
returns-clause-length c =
    let long = length-with _ _ _ c.nullifier-ends.ensures c.signature.ensures in
    sym (long ∙ omega (arith, c.put_quoted-done.ensures.end, c.put_quoted-done-2.ensures.end))

pub returns-clause-ok : goal.returns-clause-ok
returns-clause-ok c =
    let old = c.args.out.now in
    let content = c.args.content.now in
    let ends = c.nullifier-ends.result in
    let some : 0 < length old = omega (arith, c.if-out-size.false) in
    let first : set old 0 flag ≡ (flag ∷ []) ++ drop (0 + 1) old = put-byte old old [] 0 flag refl refl some in
    let second = put-next old (set old 0 flag) c.put_quoted-done.new.out (flag ∷ []) (quoted content) 1 c.put_quoted-done.result first refl c.put_quoted-done.ensures.end c.put_quoted-done.ensures.text in
    let long : length ((flag ∷ []) ++ quoted content) ≡ c.put_quoted-done.result = omega (arith, c.put_quoted-done.ensures.end, length-append (flag ∷ []) (quoted content)) in
    let third = put-next old c.put_quoted-done.new.out c.put_quoted-done-2.new.out ((flag ∷ []) ++ quoted content) (quoted ends) c.put_quoted-done.result c.put_quoted-done-2.result second long c.put_quoted-done-2.ensures.end c.put_quoted-done-2.ensures.text in
    let longer : length ((flag ∷ []) ++ quoted content ++ quoted ends) ≡ c.put_quoted-done-2.result = omega (arith, c.put_quoted-done-2.ensures.end, length-append ((flag ∷ []) ++ quoted content) (quoted ends)) in
    let room : c.put_quoted-done-2.result < length old = omega (arith, c.put_quoted-done.ensures.end, c.put_quoted-done-2.ensures.end, c.if-out-size.false, c.quoted_length.ensures.value, c.quoted_length-2.ensures.value) in
    put-byte old c.put_quoted-done-2.new.out ((flag ∷ []) ++ quoted content ++ quoted ends) c.put_quoted-done-2.result flag third longer room
    ∙ ap (λ t. t ++ drop (c.put_quoted-done-2.result + 1) old) (frame-with content ends _ c.nullifier-ends.ensures c.signature.ensures)

pub returns-clause-full : goal.returns-clause-full
returns-clause-full c =
    let long = length-with _ _ _ c.nullifier-ends.ensures c.signature.ensures in
    (λ e. absurd (false≢true e), λ below. absurd (omega (arith, below, long, c.quoted_length.ensures.value, c.quoted_length-2.ensures.value, c.if-out-size.false)))

-- Bytes written into the middle of a list.
use Rattle.std.proofs.Common.{◌≡◌, ℕ, ◌+◌, ◌≤◌, List, ◌++◌, length, take, drop, set, get_or, ◌<◌, ◌∷◌, [], append_assoc, sym, ◌∙◌, ap}
use Rattle.std.proofs.lemmas.List.{take_at, drop_at, take-append-le, drop_more, set_at, drop-drop}
use Rattle.std.proofs.Math.Seq.{take-add}

pub take-written : (a b c : List ℕ) (i n : ℕ) → length a ≡ i → n ≤ length b → take (i + n) (a ++ (b ++ c)) ≡ a ++ take n b
take-written a b c i n long fits =
    take-add i n (a ++ (b ++ c))
    ∙ ap (λ t. t ++ take n (drop i (a ++ (b ++ c)))) (take_at a (b ++ c) i long)
    ∙ ap (λ t. a ++ take n t) (drop_at a (b ++ c) i long)
    ∙ ap (λ t. a ++ t) (take-append-le n b c fits)

-- one more byte behind what was written
pub put-byte : (old out front : List ℕ) (to byte : ℕ) → out ≡ front ++ drop to old → length front ≡ to → to < length old → set out to byte ≡ (front ++ byte ∷ []) ++ drop (to + 1) old
put-byte old out front to byte is long below =
    ap (λ t. set t to byte) (is ∙ ap (λ t. front ++ t) (drop_more old to 0 below))
    ∙ set_at front (get_or old to 0) (drop (to + 1) old) byte to long
    ∙ sym (append_assoc front (byte ∷ []) (drop (to + 1) old))

-- one more text behind what was written
pub put-text : (old out front text : List ℕ) (to : ℕ) → out ≡ front ++ drop to old → length front ≡ to → take to out ++ text ++ drop (to + length text) out ≡ (front ++ text) ++ drop (to + length text) old
put-text old out front text to is long =
    ap (λ t. t ++ text ++ drop (to + length text) out) (ap (λ t. take to t) is ∙ take_at front (drop to old) to long)
    ∙ ap (λ t. (front ++ text) ++ t)
    (sym (drop-drop (length text) to out)
    ∙ ap (λ t. drop (length text) (drop to t)) is
    ∙ ap (λ t. drop (length text) t) (drop_at front (drop to old) to long)
    ∙ drop-drop (length text) to old)

-- the same of what a call left
pub put-next : (old out next front text : List ℕ) (to end : ℕ) → out ≡ front ++ drop to old → length front ≡ to → end ≡ to + length text → next ≡ take to out ++ text ++ drop end out → next ≡ (front ++ text) ++ drop end old
put-next old out next front text to end is long last e =
    e ∙ ap (λ n. take to out ++ text ++ drop n out) last ∙ put-text old out front text to is long ∙ ap (λ n. (front ++ text) ++ drop n old) (sym last)

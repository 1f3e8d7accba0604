-- Hexadecimal digits, a byte at a time.
use Rattle.std.proofs.Common.{◌≡◌, ℕ, ◌+◌, ◌*◌, ◌/◌, ◌%◌, ◌<◌, List, [], ◌∷◌, ◌++◌, length, take, get_or, refl, sym, ap, ◌∙◌, append_assoc, arith}
use Rattle.std.proofs.Math.ListN.{set, length-set}
use Rattle.std.specs.List.{flat_map}
use Rattle.std.proofs.lemmas.List.{take_more, take_more_set}
use Rattle.std.proofs.lemmas.Grind.{flat_map-append}
use Rattle.pb_value.specs.Hex.{hex, digit_of, digits_of}

-- two writes at the end of what has been written
take_two : (out : List ℕ) (k a b : ℕ) → k + 1 < length out → take (k + 1 + 1) (set (set out k a) (k + 1) b) ≡ take k out ++ a ∷ b ∷ []
take_two out k a b h =
    take_more_set (set out k a) (k + 1) b (omega (arith, length-set out k a))
    ∙ ap (λ l. l ++ b ∷ []) (take_more_set out k a (omega arith))
    ∙ append_assoc (take k out) (a ∷ []) (b ∷ [])

pub length-hex : (bytes : List ℕ) → length (hex bytes) ≡ 2 * length bytes
unfolding hex
length-hex [] = refl
length-hex (byte ∷ bytes) = omega (arith, length-hex bytes)

pub hex-more : (bytes out : List ℕ) (i : ℕ) → i < length bytes → length out ≡ 2 * length bytes → take (2 * i) out ≡ hex (take i bytes)
    → take (2 * (i + 1)) (set (set out (2 * i) (digit_of (get_or bytes i 0 / 16))) (2 * i + 1) (digit_of (get_or bytes i 0 % 16))) ≡ hex (take (i + 1) bytes)
unfolding hex
hex-more bytes out i within size so_far =
    let a = digit_of (get_or bytes i 0 / 16) in
    let b = digit_of (get_or bytes i 0 % 16) in
    let at : 2 * (i + 1) ≡ 2 * i + 1 + 1 = omega arith in
    ap (λ n. take n (set (set out (2 * i) a) (2 * i + 1) b)) at
    ∙ take_two out (2 * i) a b (omega arith)
    ∙ ap (λ l. l ++ a ∷ b ∷ []) so_far
    ∙ sym (flat_map-append digits_of (take i bytes) (get_or bytes i 0 ∷ []))
    ∙ ap (flat_map digits_of) (sym (take_more bytes i 0 within))

-- The lengths of FP2's texts.
use Rattle.std.proofs.Common.{◌≡◌, ℕ, suc, ◌+◌, ◌/◌, ◌%◌, ◌^◌, ◌<◌, ◌≤◌, Bool, true, false, cond, List, [], ◌∷◌, ◌++◌, length, length-append, get_or, nat_lt, codes, decimal, refl, sym, ap, ◌∙◌, append_assoc, inl, inr, arith}
use Rattle.std.specs.Prelude.{◌==◌}
use Rattle.std.specs.Fmt.{digit_glyph, digits_onto}
use Rattle.std.specs.Fmt.{digits as radix_digits}
use Rattle.std.proofs.lemmas.Bool.Decides.{eqb_tells}
use Rattle.std.proofs.lemmas.Bool.{cond-true, cond-false, lt-ltb}
use Rattle.std.proofs.lemmas.List.{append-nil}
use Rattle.std.proofs.lemmas.Fmt.{length-decimal-le}
use Rattle.std.proofs.Math.Nat.{div-le_self}
use Rattle.pb_value.specs.Fp2.{is_negative, decimals, mantissa, sign_text, decimals_text, number_text, signed_text, fp2_text}
use Rattle.pb_value.specs.TimeText.{digits}
use Rattle.pb_value.proofs.TimeLemmas.{length-digits}

length-sign_text : (negative : Bool) → length (sign_text negative) ≤ 1
length-sign_text true = omega arith
length-sign_text false = omega arith

length-decimals_text : (count m : ℕ) → count < 4 → length (decimals_text count m) ≤ 4
length-decimals_text count m few = go (count == 0)
  where
    go : (b : Bool) → length (cond b [] (codes "." ++ digits count m)) ≤ 4
    go true = omega arith
    go false = omega (arith, length-digits count m)

length-number_text : (word : ℕ) → length (number_text word) ≤ 9
length-number_text word =
    let m = mantissa word in
    let whole = m / 10 ^ decimals word in
    let small : whole < 10 ^ 4 = omega (arith, div-le_self m (10 ^ decimals word)) in
    let sign = sign_text (is_negative word) in
    let rest = decimals_text (decimals word) m in
    omega (
      arith,
      length-sign_text (is_negative word),
      length-decimal-le 4 whole (omega arith) small (omega (arith, small)),
      length-decimals_text (decimals word) m (omega arith),
      length-append (sign ++ decimal whole) rest,
      length-append sign (decimal whole),
    )

pub length-fp2_text : (word : ℕ) → length (fp2_text word) ≤ 9
unfolding fp2_text
length-fp2_text word = go (word == 0x1FFF) (word == 0x9FFF) (word == 0x9FFE)
  where
    go : (a b c : Bool) → length (cond a (codes "INF") (cond b (codes "-INF") (cond c (codes "NAN") (number_text word)))) ≤ 9
    go true b c = omega arith
    go false true c = omega arith
    go false false true = omega arith
    go false false false = length-number_text word

-- ---- the digits before the point

none : (n : ℕ) → n ≡ 0 → (n == 0) ≡ true
none n is = ap (λ k. k == 0) is

other : (n : ℕ) → 0 < n → (n == 0) ≡ false
other n some = elim (eqb_tells n 0) [
  | inl same ↦ absurd (omega (arith, some, same.1))
  | inr differ ↦ differ.0
]

glyph : (d : ℕ) → d < 10 → digit_glyph false d ≡ 48 + d
glyph d few = cond-true (nat_lt d 10) (48 + d) (87 + d) (lt-ltb d 10 few)

-- the last digits of a number, one more
onto_more : (k fuel n : ℕ) (acc : List ℕ) → 10 ≤ n → digits_onto fuel 10 false (n / 10) ((48 + n % 10) ∷ acc) ≡ digits k (n / 10) ++ (48 + n % 10) ∷ acc
    → digits_onto (suc fuel) 10 false n acc ≡ digits (suc k) n ++ acc
unfolding digits
onto_more k fuel n acc some more =
    cond-false (n / 10 == 0) _ _ (other (n / 10) (omega (arith, some))) ∙ ap (λ g. digits_onto fuel 10 false (n / 10) (g ∷ acc)) (glyph (n % 10) (omega arith)) ∙ more
    ∙ sym (append_assoc (digits k (n / 10)) ((48 + n % 10) ∷ []) acc)

onto_one : (fuel n : ℕ) (acc : List ℕ) → n < 10 → digits_onto (suc fuel) 10 false n acc ≡ digits 1 n ++ acc
unfolding digits
onto_one fuel n acc few = cond-true (n / 10 == 0) _ _ (none (n / 10) (omega (arith, few))) ∙ ap (λ g. g ∷ acc) (glyph (n % 10) (omega arith))

decimal_1 : (n : ℕ) → n < 10 → decimal n ≡ digits 1 n
unfolding radix_digits
decimal_1 n few = onto_one 63 n [] few ∙ append-nil (digits 1 n)

decimal_2 : (n : ℕ) → 10 ≤ n → n < 100 → decimal n ≡ digits 2 n
unfolding radix_digits
decimal_2 n some few = onto_more 1 63 n [] some (onto_one 62 (n / 10) _ (omega (arith, few))) ∙ append-nil (digits 2 n)

decimal_3 : (n : ℕ) → 100 ≤ n → n < 1000 → decimal n ≡ digits 3 n
unfolding radix_digits
decimal_3 n some few =
    onto_more 2 63 n [] (omega (arith, some)) (onto_more 1 62 (n / 10) _ (omega (arith, some)) (onto_one 61 (n / 10 / 10) _ (omega (arith, few)))) ∙ append-nil (digits 3 n)

-- ---- signed texts, by how many digits are before the point

-- the digit at a place
abbrev pub at : List ℕ → ℕ → ℕ
at ds n = get_or ds n 0

-- a number whose digits before the point are known
signed_as : (sign rest whole given : List ℕ) (n : ℕ) → decimal n ≡ whole → whole ++ rest ≡ given → sign ++ given ≡ sign ++ decimal n ++ rest
signed_as sign rest whole given n is parts =
    ap (λ l. sign ++ l) (sym parts) ∙ sym (append_assoc sign whole rest) ∙ ap (λ l. sign ++ l ++ rest) (sym is)

pub one_3 : (negative : Bool) (m : ℕ) (ds : List ℕ) → ds ≡ digits 4 m → 1000 ≤ m → m < 8192 → sign_text negative ++ (at ds 0 ∷ at ds 1 ∷ at ds 2 ∷ 46 ∷ at ds 3 ∷ []) ≡ signed_text negative m 1
unfolding digits
one_3 negative m ds is some few = rw is (signed_as (sign_text negative) (decimals_text 1 m) (digits 3 (m / 10)) _ (m / 10) (decimal_3 (m / 10) (omega (arith, some)) (omega (arith, few))) refl)

pub one_2 : (negative : Bool) (m : ℕ) (ds : List ℕ) → ds ≡ digits 4 m → 100 ≤ m → m < 1000 → sign_text negative ++ (at ds 1 ∷ at ds 2 ∷ 46 ∷ at ds 3 ∷ []) ≡ signed_text negative m 1
unfolding digits
one_2 negative m ds is some few = rw is (signed_as (sign_text negative) (decimals_text 1 m) (digits 2 (m / 10)) _ (m / 10) (decimal_2 (m / 10) (omega (arith, some)) (omega (arith, few))) refl)

pub one_1 : (negative : Bool) (m : ℕ) (ds : List ℕ) → ds ≡ digits 4 m → m < 100 → sign_text negative ++ (at ds 2 ∷ 46 ∷ at ds 3 ∷ []) ≡ signed_text negative m 1
unfolding digits
one_1 negative m ds is few = rw is (signed_as (sign_text negative) (decimals_text 1 m) (digits 1 (m / 10)) _ (m / 10) (decimal_1 (m / 10) (omega (arith, few))) refl)

pub two_2 : (negative : Bool) (m : ℕ) (ds : List ℕ) → ds ≡ digits 4 m → 1000 ≤ m → m < 8192 → sign_text negative ++ (at ds 0 ∷ at ds 1 ∷ 46 ∷ at ds 2 ∷ at ds 3 ∷ []) ≡ signed_text negative m 2
unfolding digits
two_2 negative m ds is some few =
    let same : m / 100 ≡ m / 10 / 10 = omega arith in
    rw is (signed_as (sign_text negative) (decimals_text 2 m) (digits 2 (m / 10 / 10)) _ (m / 100) (ap decimal same ∙ decimal_2 (m / 10 / 10) (omega (arith, some)) (omega (arith, few))) refl)

pub two_1 : (negative : Bool) (m : ℕ) (ds : List ℕ) → ds ≡ digits 4 m → m < 1000 → sign_text negative ++ (at ds 1 ∷ 46 ∷ at ds 2 ∷ at ds 3 ∷ []) ≡ signed_text negative m 2
unfolding digits
two_1 negative m ds is few =
    let same : m / 100 ≡ m / 10 / 10 = omega arith in
    rw is (signed_as (sign_text negative) (decimals_text 2 m) (digits 1 (m / 10 / 10)) _ (m / 100) (ap decimal same ∙ decimal_1 (m / 10 / 10) (omega (arith, few))) refl)

pub three_1 : (negative : Bool) (m : ℕ) (ds : List ℕ) → ds ≡ digits 4 m → m < 8192 → sign_text negative ++ (at ds 0 ∷ 46 ∷ at ds 1 ∷ at ds 2 ∷ at ds 3 ∷ []) ≡ signed_text negative m 3
unfolding digits
three_1 negative m ds is few =
    let same : m / 1000 ≡ m / 10 / 10 / 10 = omega arith in
    rw is (signed_as (sign_text negative) (decimals_text 3 m) (digits 1 (m / 10 / 10 / 10)) _ (m / 1000) (ap decimal same ∙ decimal_1 (m / 10 / 10 / 10) (omega (arith, few))) refl)

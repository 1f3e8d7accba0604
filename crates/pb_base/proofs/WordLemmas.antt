-- The words of a line, each cut from what comes after it in one way.
use Rattle.std.proofs.Common.{◌≡◌, ℕ, suc, ◌<◌, ◌≤◌, ◌^◌, List, [], ◌∷◌, ◌++◌, length, get_or, drop, refl, sym, ap, ◌∙◌, arith, length-append, decimal}
use Rattle.std.specs.Str.Parse.{AllDigits}
use Rattle.std.proofs.lemmas.List.{get_or_at}
use Rattle.std.proofs.lemmas.Fmt.{decimal_injective, digits_decimal}
use Rattle.std.proofs.lemmas.Str.Parse.{numerals_by_value, tells_digits, not_in_digits}
use Rattle.pb_base.specs.Words.{Lacks, IsNameByte}

-- two texts that are cut at the same byte are cut at one place
pub cut_one : (s : ℕ) (xs ys us vs : List ℕ) → xs ++ s ∷ us ≡ ys ++ s ∷ vs → Lacks s xs → Lacks s ys → (xs ≡ ys) × (us ≡ vs)
cut_one s [] [] us vs is lx ly = (refl, ap (drop 1) is)
cut_one s [] (y ∷ ys) us vs is lx ly = absurd (ly 0 (omega arith) (sym (ap (λ (l : List ℕ). get_or l 0 0) is)))
cut_one s (x ∷ xs) [] us vs is lx ly = absurd (lx 0 (omega arith) (ap (λ (l : List ℕ). get_or l 0 0) is))
cut_one s (x ∷ xs) (y ∷ ys) us vs is lx ly =
    let rest = cut_one s xs ys us vs (ap (drop 1) is) (λ k lt. lx (suc k) (omega arith)) (λ k lt. ly (suc k) (omega arith)) in
    let first : x ≡ y = ap (λ (l : List ℕ). get_or l 0 0) is in
    ((λ j. first j ∷ rest.0 j), rest.1)

-- where none of the bytes is the one at which the text would be cut
pub no_cut : (s place : ℕ) (bytes before after : List ℕ) → ((k : ℕ) → k < place → get_or bytes k 0 ≡ s → ⊥) → place ≡ length bytes → bytes ≡ before ++ s ∷ after → ⊥
no_cut s place bytes before after lacks all is =
    lacks (length before) (omega (arith, all, ap length is, length-append before (s ∷ after)))
    (ap (λ (l : List ℕ). get_or l (length before) 0) is ∙ get_or_at before s after 0 (length before) refl)

-- no byte below the digits is one of a number's
pub decimal_lacks : (n s : ℕ) → n < 2 ^ 32 → s < 48 → Lacks s (decimal n)
decimal_lacks n s small low = not_in_digits (numerals_by_value (AllDigits 10) tells_digits) (decimal n) s (digits_decimal (numerals_by_value (AllDigits 10) tells_digits) n (omega arith)) (λ r. omega (arith, r, low))

-- a number that ends with such a byte is one, and so is what comes after it
pub number_next : (n m s : ℕ) (r q : List ℕ) → n < 2 ^ 32 → m < 2 ^ 32 → s < 48 → decimal n ++ s ∷ r ≡ decimal m ++ s ∷ q → (n ≡ m) × (r ≡ q)
number_next n m s r q ln lm low is =
    let cut = cut_one s (decimal n) (decimal m) r q is (decimal_lacks n s ln low) (decimal_lacks m s lm low) in
    (decimal_injective n m (omega arith) (omega arith) cut.0, cut.1)

-- no byte of a name is below the dash: no space, and no line feed
pub name_byte : (byte : ℕ) → IsNameByte byte → 45 ≤ byte
name_byte byte is = grind arith

-- Texts of which no byte calls for quotes: those of all values but text.
use Rattle.std.proofs.Common.{◌≡◌, ◌≢◌, ℕ, zero, suc, ◌+◌, ◌-◌, ◌/◌, ◌%◌, ◌<◌, ℤ, pos, negsuc, List, [], ◌∷◌, ◌++◌, Bool, true, false, Option, Some, None, Result, Ok, Err, OnOk, take, drop, nat_lt, codes, decimal, refl, sym, ap, ◌∙◌, subst, arith, inl, inr}
use Rattle.std.specs.Prelude.{◌==◌, ◌||◌, if◌then◌else◌, is_ok}
use Rattle.std.specs.Fmt.{signed_decimal, digit_glyph, digits_onto}
use Rattle.std.specs.Fmt.{digits as radix_digits}
use Rattle.std.specs.List.{list_any}
use Rattle.std.proofs.lemmas.Bool.Decides.{eqb_tells}
use Rattle.std.proofs.lemmas.Bool.{cond-false}
use Rattle.std.proofs.lemmas.List.{append-nil, take_at}
use Rattle.std.proofs.lemmas.List.Folds.{list_any-append}
use Rattle.csv.specs.Writing.{comma, default_writer, field_text, needs_byte}
use Rattle.pb_base.specs.declared.nsec.Nsec.{Nsec}
use Rattle.pb_base.specs.Put.{IsWritten}
use Rattle.pb_base.specs.Time.{time_bytes}
use Rattle.pb_tdf.specs.Kinds.{ascii}
use Rattle.pb_value.specs.Fp2.{decimals_text, fp2_text, infinity, is_negative, mantissa, minus_infinity, not_a_number, sign_text}
use Rattle.pb_value.specs.Hex.{digit_of, hex}
use Rattle.pb_value.specs.TimeText.{clock_text, date_text, day_of_year, digits, fraction_text, month_text, part_of, second_text, text_by, time_text, year_of}
use Rattle.pb_value.specs.ValueText.{Form, form_text, truth_text, value_text}

-- no byte of it calls for quotes
pub record IsPlain (text : List ℕ) : Type 0 where
  pub none : list_any (needs_byte default_writer) text ≡ false

-- ---- bytes

other : (b k : ℕ) → k < b → (b == k) ≡ false
other b k above = elim (eqb_tells b k) [
  | inl same ↦ absurd (omega (arith, above, same.1))
  | inr differ ↦ differ.0
]

above_comma : (b : ℕ) → 44 < b → needs_byte default_writer b ≡ false
above_comma b above = simp (other b 44 above, other b 34 (omega (arith, above)), other b 13 (omega (arith, above)), other b 10 (omega (arith, above))) refl

-- ---- texts one after another

none_of : (a b : Bool) → a ≡ false → b ≡ false → (a || b) ≡ false
none_of false false p q = refl
none_of true b p q = p
none_of false true p q = q

plain_append : (a b : List ℕ) → IsPlain a → IsPlain b → IsPlain (a ++ b)
plain_append a b p q = record { none = list_any-append (needs_byte default_writer) a b ∙ none_of _ _ p.none q.none }

plain_cons : (x : ℕ) (rest : List ℕ) → 44 < x → IsPlain rest → IsPlain (x ∷ rest)
plain_cons x rest above p = record { none = none_of _ _ (above_comma x above) p.none }

plain_if : (test : Bool) (a b : List ℕ) → IsPlain a → IsPlain b → IsPlain (if test then a else b)
plain_if true a b p q = p
plain_if false a b p q = q

-- ---- numbers

glyph_above : (d : ℕ) → 44 < digit_glyph false d
glyph_above d = above (nat_lt d 10)
  where
    above : (test : Bool) → 44 < (if test then 48 + d else 87 + d)
    above true = omega arith
    above false = omega arith

plain_onto : (k n : ℕ) (acc : List ℕ) → IsPlain acc → IsPlain (digits_onto k 10 false n acc)
plain_onto zero n acc p = p
plain_onto (suc k) n acc p =
    let more = plain_cons (digit_glyph false (n % 10)) acc (glyph_above (n % 10)) p in
    plain_if (n / 10 == 0) (digit_glyph false (n % 10) ∷ acc) (digits_onto k 10 false (n / 10) (digit_glyph false (n % 10) ∷ acc)) more (plain_onto k (n / 10) (digit_glyph false (n % 10) ∷ acc) more)

pub plain_decimal : (n : ℕ) → IsPlain (decimal n)
unfolding radix_digits
plain_decimal n = plain_onto 64 n [] (record { none = refl })

plain_signed : (n : ℤ) → IsPlain (signed_decimal n)
plain_signed (pos n) = plain_decimal n
plain_signed (negsuc n) = plain_cons 45 (decimal (suc n)) (omega arith) (plain_decimal (suc n))

plain_digits : (count n : ℕ) → IsPlain (digits count n)
unfolding digits
plain_digits zero n = record { none = refl }
plain_digits (suc count) n = plain_append (digits count (n / 10)) ((48 + n % 10) ∷ []) (plain_digits count (n / 10)) (plain_cons (48 + n % 10) [] (omega arith) (record { none = refl }))

plain_sign : (negative : Bool) → IsPlain (sign_text negative)
plain_sign true = record { none = refl }
plain_sign false = record { none = refl }

plain_decimals : (count m : ℕ) → IsPlain (decimals_text count m)
plain_decimals count m = plain_if (count == 0) [] (codes "." ++ digits count m) (record { none = refl }) (plain_append (codes ".") (digits count m) (record { none = refl }) (plain_digits count m))

plain_fp2 : (word : ℕ) → IsPlain (fp2_text word)
unfolding fp2_text
plain_fp2 word =
    plain_if (word == infinity) _ _ (record { none = refl }) (plain_if (word == minus_infinity) _ _ (record { none = refl }) (plain_if (word == not_a_number) _ _ (record { none = refl })
    (plain_append _ _ (plain_append _ _ (plain_sign (is_negative word)) (plain_decimal _)) (plain_decimals _ (mantissa word)))))

-- ---- bytes in hexadecimal

digit_above : (n : ℕ) → 44 < digit_of n
digit_above n = above (nat_lt n 10)
  where
    above : (test : Bool) → 44 < (if test then 48 + n else 55 + n)
    above true = omega arith
    above false = omega arith

plain_hex : (bytes : List ℕ) → IsPlain (hex bytes)
unfolding hex
plain_hex [] = record { none = refl }
plain_hex (b ∷ bytes) = plain_cons (digit_of (b / 16)) _ (digit_above (b / 16)) (plain_cons (digit_of (b % 16)) _ (digit_above (b % 16)) (plain_hex bytes))

-- ---- times

plain_clock : (second : ℕ) → IsPlain (clock_text second)
unfolding clock_text
plain_clock second =
    plain_append _ _ (plain_append _ _ (plain_append _ _ (plain_append _ _ (plain_digits 2 _) (record { none = refl })) (plain_digits 2 _)) (record { none = refl })) (plain_digits 2 _)

plain_month : (year day : ℕ) → IsPlain (month_text year day)
unfolding month_text
plain_month year day = plain_append _ _ (plain_append _ _ (plain_digits 2 _) (record { none = refl })) (plain_digits 2 _)

plain_date : (day : ℕ) → IsPlain (date_text day)
unfolding date_text
plain_date day = plain_append _ _ (plain_append _ _ (plain_digits 4 _) (record { none = refl })) (plain_month (year_of day) (day_of_year day))

plain_second : (second : ℕ) → IsPlain (second_text second)
unfolding second_text
plain_second second = plain_append _ _ (plain_append _ _ (plain_date (second / 86400)) (record { none = refl })) (plain_clock (second % 86400))

plain_fraction : (nano : ℕ) → IsPlain (fraction_text nano)
unfolding fraction_text
plain_fraction nano = plain_if (nano == 0) _ _ (record { none = refl }) (plain_append (codes ".") (digits 9 nano) (record { none = refl }) (plain_digits 9 nano))

plain_by : (time : Nsec) (part : Option ℕ) → IsPlain (text_by time part)
plain_by time (Some nano) = plain_append _ _ (plain_second _) (plain_fraction nano)
plain_by time None = plain_hex (time_bytes time)

pub plain_time : (time : Nsec) → IsPlain (time_text time)
unfolding time_text
plain_time time = plain_by time (part_of time.nano)

-- ---- values

abbrev HasPlain : List ℕ → Form → Type 0
HasPlain bytes form = IsPlain (form_text form bytes)

form_if : (bytes : List ℕ) (test : Bool) (a b : Form) → HasPlain bytes a → HasPlain bytes b → HasPlain bytes (if test then a else b)
form_if bytes true a b p q = p
form_if bytes false a b p q = q

form_not : (bytes : List ℕ) (test : Bool) (a b : Form) → test ≡ false → HasPlain bytes b → HasPlain bytes (if test then a else b)
form_not bytes test a b differs p = subst (HasPlain bytes) (sym (cond-false test a b differs)) p

plain_truth : (n : ℕ) → IsPlain (truth_text n)
plain_truth n = plain_if (n == 0) _ _ (record { none = refl }) (record { none = refl })

-- no value that isn't text calls for quotes
pub plain_value : (kind : ℕ) (bytes : List ℕ) → (kind == ascii) ≡ false → IsPlain (value_text kind bytes)
unfolding value_text
plain_value kind bytes differs =
    let f = form_if bytes in
    f (kind == 1) _ _ (plain_decimal _) (f (kind == 2) _ _ (plain_decimal _) (f (kind == 3) _ _ (plain_decimal _)
    (f (kind == 4) _ _ (plain_signed _) (f (kind == 5) _ _ (plain_signed _) (f (kind == 6) _ _ (plain_signed _)
    (f (kind == 7) _ _ (plain_fp2 _) (f (kind == 10) _ _ (plain_truth _) (form_not bytes (kind == ascii) _ _ differs
    (f (kind == 12) _ _ (plain_time _) (f (kind == 14) _ _ (plain_time _) (plain_hex bytes)))))))))))

-- ---- fields

-- a plain text is a field as it is
pub plain_field : (text : List ℕ) → IsPlain text → field_text default_writer text ≡ text
plain_field text plain = cond-false (list_any (needs_byte default_writer) text) _ _ plain.none

taken : (text out rest : List ℕ) (n : ℕ) → IsWritten text rest out n → take (1 + n) (44 ∷ (out ++ [])) ≡ 44 ∷ text
taken text out rest n written =
    let one : 1 + n ≡ suc n = omega arith in
    ap (λ k. take k (44 ∷ (out ++ []))) one
    ∙ ap (λ l. 44 ∷ l) (ap (λ l. take n l) (append-nil out ∙ written.parts) ∙ take_at text (drop n rest) n (sym written.len))

-- a plain text that was made after a comma, and added to a row, is a further field of it
pub adds_next : {T E : Type 0} (r : Result T E) (new old text out rest : List ℕ) (n : ℕ) → new ≡ (if is_ok r then old ++ take (1 + n) (44 ∷ (out ++ [])) else old) → IsWritten text rest out n → IsPlain text
    → OnOk r (new ≡ old ++ comma ∷ field_text default_writer text)
adds_next (Ok t) new old text out rest n items written plain =
    items ∙ ap (λ l. old ++ l) (taken text out rest n written ∙ ap (λ l. 44 ∷ l) (sym (plain_field text plain)))
adds_next (Err e) new old text out rest n items written plain = tt

-- a plain text that was added to a row is a field of it
pub adds_plain : {T E : Type 0} (r : Result T E) (new old given text : List ℕ) → new ≡ (if is_ok r then old ++ given else old) → given ≡ text → IsPlain text → OnOk r (new ≡ old ++ field_text default_writer text)
adds_plain (Ok t) new old given text items is plain = items ∙ ap (λ l. old ++ l) (is ∙ sym (plain_field text plain))
adds_plain (Err e) new old given text items is plain = tt

pub not_text : (kind : ℕ) → kind ≢ ascii → (kind == ascii) ≡ false
not_text kind differs = elim (eqb_tells kind ascii) [
  | inl same ↦ absurd (differs same.1)
  | inr other ↦ other.0
]

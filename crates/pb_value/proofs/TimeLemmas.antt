-- The dates of days, and the digits of numbers.
use Rattle.std.proofs.Common.{◌≡◌, ℕ, zero, suc, ◌+◌, ◌-◌, ◌/◌, ◌%◌, ◌<◌, ◌≤◌, List, [], ◌∷◌, ◌++◌, length, drop, refl, sym, ap, arith, rules, ℤ, pos, ◌+ℤ◌, ◌-ℤ◌, unsigned_abs, codes, Some, None, FitsSigned, w32, w64, to_z, of_z, inl, inr, append_assoc, Bool, true, false, Option, length-append}
use Rattle.std.proofs.Math.ListN.{set}
use Rattle.std.proofs.lemmas.Bool.{cases_order}
use Rattle.std.proofs.lemmas.Int.{to_z-of_z}
use Rattle.std.proofs.lemmas.List.{drop-set}
use Rattle.pb_base.specs.declared.nsec.Nsec.{Nsec}
use Rattle.jiff_core.specs.Calendar.{day_count, days_of_months, days_from_civil, days_in_month, days_in_year, IsCivilDate}
use Rattle.jiff_core.proofs.SignedLemmas.{signed_arith}
use Rattle.jiff_core.proofs.MarchLemmas.{day_count-early}
use Rattle.jiff_core.proofs.CalendarLemmas.{days_from_civil-day_count, day_count-next_year, day_count-year_is, day_count-day_of_year, days_of_months-zero, days_of_months_more, days_of_months_mono}
use Rattle.std.specs.Prelude.{◌==◌, if◌then◌else◌}
use Rattle.pb_base.specs.Time.{time_bytes}
use Rattle.pb_value.specs.Hex.{hex}
use Rattle.pb_value.proofs.HexLemmas.{length-hex}
use Rattle.pb_value.specs.TimeText.{year_length, month_length, year_start, month_start, last_begun, year_of, day_of_year, month_of, day_of_month, digits, month_text, date_text, clock_text, second_text, fraction_text, since_1900, part_of, text_by, time_text}

-- ---- the last that had begun

pub last_begun-most : (start : ℕ → ℕ) (n day : ℕ) → last_begun start n day ≤ n
unfolding last_begun
last_begun-most start zero day = omega arith
last_begun-most start (suc n) day = grind (arith, last_begun-most start n day)

pub last_begun-low : (start : ℕ → ℕ) (n day : ℕ) → start 0 ≤ day → start (last_begun start n day) ≤ day
unfolding last_begun
last_begun-low start zero day h = h
last_begun-low start (suc n) day h = grind (arith, last_begun-low start n day h)

pub last_begun-high : (start : ℕ → ℕ) (n day : ℕ) → day < start (suc n) → day < start (suc (last_begun start n day))
unfolding last_begun
last_begun-high start zero day h = h
last_begun-high start (suc n) day h = grind (arith, h, last_begun-high start n day)

-- ---- the calendar is the one of the dates

begin_of_1900 : day_count (pos 1900) 1 1 ≡ 4_346_386
begin_of_1900 = day_count-early (pos 1900) 11899 1 1 refl (omega arith) (omega arith) (omega arith)

year_length-is : (year : ℕ) → days_in_year (pos year) ≡ year_length year
year_length-is year = refl

month_length-is : (year month : ℕ) → days_in_month (pos year) month ≡ month_length year month
month_length-is year month = refl

year_start-is : (n : ℕ) → day_count (pos (1900 + n)) 1 1 ≡ 4_346_386 + year_start n
unfolding year_start
year_start-is zero = begin_of_1900
year_start-is (suc n) =
    let next = day_count-next_year (pos (1900 + n)) (pos (1900 + suc n)) (search rules) (omega (arith, signed_arith)) in
    omega (arith, next, year_start-is n, year_length-is (1900 + n))

month_start-is : (year n : ℕ) → days_of_months (pos year) n ≡ month_start year n
unfolding month_start
month_start-is year zero = days_of_months-zero (pos year)
month_start-is year (suc n) =
    let back : suc n - 1 ≡ n = omega arith in
    omega (arith, rw back at (days_of_months_more (pos year) (suc n) (omega arith)), month_start-is year n, month_length-is year (suc n))

month_start-mono : (year a b : ℕ) → a ≤ b → month_start year a ≤ month_start year b
month_start-mono year a b h = omega (arith, month_start-is year a, month_start-is year b, days_of_months_mono (pos year) a b h)

month_start-more : (year n : ℕ) → month_start year (suc n) ≡ month_start year n + month_length year (suc n)
unfolding month_start
month_start-more year n = refl

month_is : (year day n e : ℕ) → n < 12 → e < month_length year (suc n) → day ≡ month_start year n + e → (month_of year day ≡ n) × (day_of_month year day ≡ e)
unfolding month_of day_of_month month_start
month_is year day n e h short is =
    let k = last_begun (month_start year) 11 day in
    let more = month_start-more year n in
    let low : month_start year k ≤ day = last_begun-low (month_start year) 11 day (omega arith) in
    let high : day < month_start year (suc k) = last_begun-high (month_start year) 11 day (omega (arith, more, month_start-mono year (suc n) 12 (omega arith))) in
    elim (cases_order k n) [
      | inl same ↦ (same, rw same (omega arith))
      | inr (inl lt) ↦ absurd (omega (arith, high, is, month_start-mono year (suc k) n (omega arith)))
      | inr (inr gt) ↦ absurd (omega (arith, low, is, more, month_start-mono year (suc n) k (omega arith)))
    ]

year_start-end : year_start 201 ≡ 73_414
unfolding year_start
year_start-end = refl

year_start-zero : year_start 0 ≡ 0
unfolding year_start
year_start-zero = refl

year_start-more : (n : ℕ) → year_start (suc n) ≡ year_start n + year_length (1900 + n)
unfolding year_start
year_start-more n = refl

year_is : (day : ℕ) (y : ℤ) (m d : ℕ) → IsCivilDate y m d → day_count y m d ≡ 4_346_386 + day → day < 73_000 → y ≡ pos (year_of day)
unfolding year_of
year_is day y m d h count early =
    let k = last_begun year_start 200 day in
    let most : k ≤ 200 = last_begun-most year_start 200 day in
    let low : year_start k ≤ day = last_begun-low year_start 200 day (omega (arith, year_start-zero)) in
    let high : day < year_start (suc k) = last_begun-high year_start 200 day (omega (arith, year_start-end)) in
    let more = year_start-more k in
    day_count-year_is (pos (1900 + k)) y m d (omega (arith, signed_arith)) h (omega (arith, year_start-is k)) (omega (arith, year_start-is k, year_length-is (1900 + k)))

within : (day : ℕ) (y : ℤ) (m d : ℕ) → IsCivilDate y m d → y ≡ pos (year_of day) → d - 1 < month_length (year_of day) (suc (m - 1))
within day y m d h year =
    let same : suc (m - 1) ≡ m = omega (arith, h.1) in
    rw same (omega (arith, h.2, month_length-is (year_of day) m, ap (λ (z : ℤ). days_in_month z m) year))

place_is : (day : ℕ) (y : ℤ) (m d : ℕ) → IsCivilDate y m d → day_count y m d ≡ 4_346_386 + day → y ≡ pos (year_of day) → day_of_year day ≡ month_start (year_of day) (m - 1) + (d - 1)
unfolding year_of day_of_year
place_is day y m d h count year =
    let k = last_begun year_start 200 day in
    let here : day_count y 1 1 ≡ 4_346_386 + year_start k = rw year (year_start-is k) in
    let months : days_of_months y (m - 1) ≡ month_start (1900 + k) (m - 1) = rw year (month_start-is (1900 + k) (m - 1)) in
    omega (arith, h.2, here, months, count, day_count-day_of_year y m d h.2.0)

-- the parts of the date of a day are those that the calendar gives it
pub date_is : (day : ℕ) (y : ℤ) (m d : ℕ) → IsCivilDate y m d → days_from_civil y m d ≡ pos day -ℤ pos 25_567 → day < 73_000
    → (unsigned_abs y ≡ year_of day) × (m ≡ 1 + month_of (year_of day) (day_of_year day)) × (d ≡ 1 + day_of_month (year_of day) (day_of_year day))
date_is day y m d h number early =
    let count : day_count y m d ≡ 4_346_386 + day = omega (arith, signed_arith, number, days_from_civil-day_count y m d) in
    let year = year_is day y m d h count early in
    let place = month_is (year_of day) (day_of_year day) (m - 1) (d - 1) (omega (arith, h.1)) (within day y m d h year) (place_is day y m d h count year) in
    (ap unsigned_abs year, omega (arith, h.1, place.0), omega (arith, h.2, place.1))

pub date_text-is : (day : ℕ) (y : ℤ) (m d : ℕ) → IsCivilDate y m d → days_from_civil y m d ≡ pos day -ℤ pos 25_567 → day < 73_000
    → digits 4 (unsigned_abs y) ++ codes "-" ++ digits 2 m ++ codes "-" ++ digits 2 d ≡ date_text day
unfolding date_text month_text
date_text-is day y m d h number early =
    let is = date_is day y m d h number early in
    rw (is.0, is.1, is.2) (simp append_assoc refl)

-- the day number of a day fits the type that the code counts in
pub day_fits : (day : ℕ) → day < 73_000 → to_z w64 (of_z w64 (to_z w64 (of_z w64 (pos day)) -ℤ pos 25_567)) ≡ pos day -ℤ pos 25_567
day_fits day early =
    let whole : to_z w64 (of_z w64 (pos day)) ≡ pos day = to_z-of_z w64 (pos day) (search rules) in
    let fits : FitsSigned w64 (pos day -ℤ pos 25_567) = omega (arith, signed_arith) in
    rw whole (to_z-of_z w64 (pos day -ℤ pos 25_567) fits)

year_start-1990 : year_start 90 ≡ 32_872
unfolding year_start
year_start-1990 = refl

pub second_is : (sec : ℤ) → FitsSigned w32 sec → unsigned_abs (to_z w64 (of_z w64 (to_z w64 (of_z w64 (to_z w32 (of_z w32 sec))) +ℤ pos 2_840_140_800))) ≡ since_1900 sec
second_is sec h =
    let wide : FitsSigned w64 sec = omega (arith, signed_arith) in
    let sum : FitsSigned w64 (sec +ℤ pos 2_840_140_800) = omega (arith, signed_arith) in
    rw (to_z-of_z w32 sec h, to_z-of_z w64 sec wide, to_z-of_z w64 (sec +ℤ pos 2_840_140_800) sum, year_start-1990) refl

pub time_text-some : (time : Nsec) (nano second : ℕ) → part_of time.nano ≡ Some nano → second ≡ since_1900 time.sec → second_text second ++ fraction_text nano ≡ time_text time
unfolding time_text
time_text-some time nano second part is = rw (part, is) refl

pub time_text-parts : (time : Nsec) (nano second : ℕ) → part_of time.nano ≡ Some nano → second ≡ since_1900 time.sec
    → (date_text (second / 86400) ++ codes " ") ++ clock_text (second % 86400) ++ (if nano == 0 then [] else codes "." ++ digits 9 nano) ≡ time_text time
unfolding second_text fraction_text
time_text-parts time nano second part is = time_text-some time nano second part is

pub time_text-none : (time : Nsec) → part_of time.nano ≡ None → hex (time_bytes time) ≡ time_text time
unfolding time_text
time_text-none time part = rw part refl

-- ---- digits

pub digits-more : (out : List ℕ) (i n : ℕ) → i < length out → digits i (n / 10) ++ drop i (set out i (48 + n % 10)) ≡ digits (i + 1) n ++ drop (i + 1) out
unfolding digits
digits-more out i n h =
    let more : i + 1 ≡ suc i = omega arith in
    rw (drop-set out i (48 + n % 10) h, more) (sym (append_assoc (digits i (n / 10)) ((48 + n % 10) ∷ []) (drop (suc i) out)))

-- no digits stand before all that were written
pub digits-none : (count n : ℕ) (out : List ℕ) → count ≡ 0 → digits count n ++ drop count out ≡ out
unfolding digits
digits-none count n out h = rw h

-- ---- lengths

pub length-digits : (count n : ℕ) → length (digits count n) ≡ count
unfolding digits
length-digits zero n = refl
length-digits (suc count) n = omega (arith, length-append (digits count (n / 10)) ((48 + n % 10) ∷ []), length-digits count (n / 10))

pub length-date_text : (day : ℕ) → length (date_text day) ≡ 10
unfolding date_text month_text
length-date_text day = simp (length-append, length-digits) refl

pub length-clock_text : (second : ℕ) → length (clock_text second) ≡ 8
unfolding clock_text
length-clock_text second = simp (length-append, length-digits) refl

length-fraction_text : (nano : ℕ) → length (fraction_text nano) ≤ 10
unfolding fraction_text
length-fraction_text nano = go (nano == 0)
  where
    go : (b : Bool) → length (if b then [] else codes "." ++ digits 9 nano) ≤ 10
    go true = omega arith
    go false = omega (arith, length-digits 9 nano)

length-second_text : (second : ℕ) → length (second_text second) ≡ 19
unfolding second_text
length-second_text second = simp (length-append, length-date_text, length-clock_text) refl

pub length-time_text : (time : Nsec) → length (time_text time) ≤ 29
unfolding time_text
length-time_text time = go (part_of time.nano)
  where
    go : (part : Option ℕ) → length (text_by time part) ≤ 29
    go (Some nano) =
        let second = second_text (since_1900 time.sec) in
        omega (arith, length-append second (fraction_text nano), length-second_text (since_1900 time.sec), length-fraction_text nano)
    go None = omega (arith, length-hex (time_bytes time))

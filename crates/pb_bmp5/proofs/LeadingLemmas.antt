-- The fragment at the leading of bytes: what is found there leads there, and what leads there is found.
use Rattle.std.proofs.Common.{◌≡◌, ℕ, zero, suc, ◌+◌, ◌-◌, ◌^◌, ◌<◌, ◌≤◌, ◌≢◌, ◌⊎◌, Bool, true, false, cond, ltb, leb, List, [], ◌∷◌, ◌++◌, length, take, drop, Option, None, Some, w16, w32, refl, sym, ap, ap₂, subst, ◌∙◌, arith, inl, inr}
use Rattle.std.specs.Int.RustNames.{FitsSigned}
use Rattle.std.specs.Int.{Width, byte_len, from_be_bytes, to_be_bytes}
use Rattle.std.proofs.lemmas.Bool.{ltb-true, ltb-false, lt-ltb, le-ltb, leb-false, lt-leb, cases_eq}
use Rattle.std.proofs.lemmas.List.{take_at, drop_at, take-append-drop, length-append, length-take, length-drop, drop-drop}
use Rattle.pb_base.specs.declared.layout.Layout.{Layout}
use Rattle.pb_base.specs.declared.nsec.Nsec.{Nsec}
use Rattle.pb_base.specs.Fields.{IsBytes}
use Rattle.pb_base.specs.Record.{run_len}
use Rattle.pb_base.specs.Time.{HasLater}
use Rattle.pb_base.proofs.FieldLaws.{IsWide, wide16, wide32, IsBytes-take, IsBytes-drop}
use Rattle.pb_base.proofs.TimeLemmas.{earlier_too}
use Rattle.pb_bmp5.specs.CollectReply.{SeenFragment, whole, part, fragment_bytes, rest_of, IsLeading, HasOtherTable}
use Rattle.pb_bmp5.specs.Inside.{whole_of, part_of, leading_of, listed_after, listed_within, listed}

-- ---- numbers at the leading

-- the number at the leading, and what leads after it
pub number_first : (w : Width) (limit : ℕ) (wide : IsWide w limit) (bytes : List ℕ) → byte_len w ≤ length bytes → IsBytes bytes
    → bytes ≡ to_be_bytes w (from_be_bytes w (take (byte_len w) bytes)) ++ drop (byte_len w) bytes
number_first w limit wide bytes long fits =
    sym (take-append-drop (byte_len w) bytes)
    ∙ ap (λ (x : List ℕ). x ++ drop (byte_len w) bytes) (sym (wide.back (take (byte_len w) bytes) (omega (arith, length-take (byte_len w) bytes)) (IsBytes-take (byte_len w) bytes fits)))

pub half_back : (n : ℕ) (rest : List ℕ) → n < 2 ^ 16 → from_be_bytes w16 (take 2 (to_be_bytes w16 n ++ rest)) ≡ n
half_back n rest lt = wide16.again n lt

pub word_back : (n : ℕ) (rest : List ℕ) → n < 2 ^ 32 → from_be_bytes w32 (take 4 (to_be_bytes w32 n ++ rest)) ≡ n
word_back n rest lt = wide32.again n lt

-- ---- what leads is found

whole-found : (layout : Layout) (first count : ℕ) (bytes after : List ℕ) → length bytes ≡ run_len layout count → 0 < length after
    → whole_of layout first count (bytes ++ after) ≡ Some (whole first count bytes, after)
whole-found layout first count bytes after len some =
    let no : leb (length (bytes ++ after)) (run_len layout count) ≡ false = lt-leb _ _ (omega (arith, length-append bytes after)) in
    rw (no, take_at bytes after (run_len layout count) len, drop_at bytes after (run_len layout count) len) refl

part-found : (number offset : ℕ) (bytes after : List ℕ) → length after ≡ 1 → part_of number offset (bytes ++ after) ≡ Some (part number offset bytes, after)
part-found number offset bytes after one =
    let no : ltb (length (bytes ++ after)) 1 ≡ false = le-ltb _ _ (omega (arith, length-append bytes after)) in
    let len : length bytes ≡ length (bytes ++ after) - 1 = omega (arith, length-append bytes after) in
    rw (no, take_at bytes after (length (bytes ++ after) - 1) len, drop_at bytes after (length (bytes ++ after) - 1) len) refl

leading_counted : (layout : Layout) (bytes : List ℕ) (first count : ℕ) → 8 ≤ length bytes → from_be_bytes w32 (take 4 (drop 2 bytes)) ≡ first
    → from_be_bytes w16 (take 2 (drop 6 bytes)) ≡ count → count < 2 ^ 15 → leading_of layout bytes ≡ whole_of layout first count (drop 8 bytes)
leading_counted layout bytes first count long e1 e2 few = rw (le-ltb _ _ long, e1, e2, lt-ltb _ _ few) refl

leading_placed : (layout : Layout) (bytes : List ℕ) (number word : ℕ) → 10 ≤ length bytes → from_be_bytes w32 (take 4 (drop 2 bytes)) ≡ number
    → from_be_bytes w32 (take 4 (drop 6 bytes)) ≡ word → 2 ^ 15 ≤ from_be_bytes w16 (take 2 (drop 6 bytes)) → leading_of layout bytes ≡ part_of number (word - 2 ^ 31) (drop 10 bytes)
leading_placed layout bytes number word long e1 e2 marked =
    let longer : 8 ≤ length bytes = omega arith in
    rw (le-ltb (length bytes) 8 longer, le-ltb _ _ marked, le-ltb (length bytes) 10 long, e1, e2) refl

marks : (offset : ℕ) (rest : List ℕ) → offset < 2 ^ 31 → 2 ^ 15 ≤ from_be_bytes w16 (take 2 (to_be_bytes w32 (2 ^ 31 + offset) ++ rest))
marks offset rest small = omega arith

pub leading-found : (layout : Layout) (table : ℕ) (f : SeenFragment) (after bytes : List ℕ) → IsLeading layout table f after bytes → leading_of layout bytes ≡ Some (f, after)
leading-found layout table (whole first count bytes) after all s =
    rw s.parts
    (leading_counted layout (fragment_bytes table (whole first count bytes) ++ after) first count (omega arith) (wide32.again first s.fits.0)
    (wide16.again count (let few = s.fits.1 in omega arith)) s.fits.1
    ∙ whole-found layout first count bytes after s.its_bytes s.some)
leading-found layout table (part number offset bytes) after all s =
    rw s.parts
    (leading_placed layout (fragment_bytes table (part number offset bytes) ++ after) number (2 ^ 31 + offset) (omega arith) (wide32.again number s.fits.0)
    (wide32.again (2 ^ 31 + offset) (let small = s.fits.1 in omega arith)) (marks offset (bytes ++ after) s.fits.1)
    ∙ ap (λ (n : ℕ). part_of number n (bytes ++ after)) (omega arith)
    ∙ part-found number offset bytes after s.its_bytes)

-- ---- what is found leads

guarded : {A : Type 0} (b : Bool) (x : Option A) (y : A) → cond b None x ≡ Some y → (b ≡ false) × (x ≡ Some y)
guarded true x y e = absurd cc
guarded false x y e = (refl, e)

chosen : {A : Type 0} (b : Bool) (x y z : A) → cond b x y ≡ z → ((b ≡ true) × (x ≡ z)) ⊎ ((b ≡ false) × (y ≡ z))
chosen true x y z e = inl (refl, e)
chosen false x y z e = inr (refl, e)

pub the_same : {A : Type 0} {x y : A} → ◌≡◌ {A = Option A} (Some x) (Some y) → x ≡ y
the_same e = cc

-- the highest bit of a word is that of its first half
high_word : (bytes : List ℕ) → 4 ≤ length bytes → 2 ^ 15 ≤ from_be_bytes w16 (take 2 bytes) → 2 ^ 31 ≤ from_be_bytes w32 (take 4 bytes)
high_word (a ∷ b ∷ c ∷ d ∷ bytes) long marked = omega arith
high_word [] long marked = absurd (omega arith)
high_word (a ∷ []) long marked = absurd (omega arith)
high_word (a ∷ b ∷ []) long marked = absurd (omega arith)
high_word (a ∷ b ∷ c ∷ []) long marked = absurd (omega arith)

-- a number after others
number_at_place : (w : Width) (limit : ℕ) (wide : IsWide w limit) (place : ℕ) (bytes : List ℕ) → place + byte_len w ≤ length bytes → IsBytes bytes
    → drop place bytes ≡ to_be_bytes w (from_be_bytes w (take (byte_len w) (drop place bytes))) ++ drop (place + byte_len w) bytes
number_at_place w limit wide place bytes long fits =
    number_first w limit wide (drop place bytes) (omega (arith, length-drop place bytes)) (IsBytes-drop place bytes fits)
    ∙ ap (λ (x : List ℕ). to_be_bytes w (from_be_bytes w (take (byte_len w) (drop place bytes))) ++ x) (drop-drop (byte_len w) place bytes)

header : (bytes : List ℕ) → 6 ≤ length bytes → IsBytes bytes
    → bytes ≡ to_be_bytes w16 (from_be_bytes w16 (take 2 bytes)) ++ (to_be_bytes w32 (from_be_bytes w32 (take 4 (drop 2 bytes))) ++ drop 6 bytes)
header bytes long fits =
    number_first w16 (2 ^ 16) wide16 bytes (omega arith) fits
    ∙ ap (λ (x : List ℕ). to_be_bytes w16 (from_be_bytes w16 (take 2 bytes)) ++ x) (number_at_place w32 (2 ^ 32) wide32 2 bytes long fits)

word_below : (place : ℕ) (bytes : List ℕ) → IsBytes bytes → from_be_bytes w32 (take 4 (drop place bytes)) < 2 ^ 32
word_below place bytes fits = wide32.below (take 4 (drop place bytes)) (IsBytes-take 4 (drop place bytes) (IsBytes-drop place bytes fits))

whole-leads : (layout : Layout) (count : ℕ) (leading : SeenFragment × List ℕ) (bytes : List ℕ) → IsBytes bytes → 8 ≤ length bytes → count < 2 ^ 15
    → from_be_bytes w16 (take 2 (drop 6 bytes)) ≡ count → whole_of layout (from_be_bytes w32 (take 4 (drop 2 bytes))) count (drop 8 bytes) ≡ Some leading
    → IsLeading layout (from_be_bytes w16 (take 2 bytes)) leading.0 leading.1 bytes
whole-leads layout count leading bytes fits long few e is =
    let len : ℕ = run_len layout count in
    let g = guarded (leb (length (drop 8 bytes)) len) _ leading is in
    let more : len < length (drop 8 bytes) = leb-false _ _ g.0 in
    let parts =
    header bytes (omega arith) fits
    ∙ ap (λ (x : List ℕ). to_be_bytes w16 (from_be_bytes w16 (take 2 bytes)) ++ (to_be_bytes w32 (from_be_bytes w32 (take 4 (drop 2 bytes))) ++ x))
    (number_at_place w16 (2 ^ 16) wide16 6 bytes long fits
    ∙ ap₂ (λ (n : ℕ) (x : List ℕ). to_be_bytes w16 n ++ x) e (sym (take-append-drop len (drop 8 bytes)))) in
    subst (λ (p : SeenFragment × List ℕ). IsLeading layout (from_be_bytes w16 (take 2 bytes)) p.0 p.1 bytes) (the_same g.1) (record {
      parts = parts;
      number = wide16.below (take 2 bytes) (IsBytes-take 2 bytes fits);
      fits = (word_below 2 bytes fits, few);
      its_bytes = omega (arith, length-take len (drop 8 bytes));
      some = omega (arith, length-drop len (drop 8 bytes));
    })

part-leads : (layout : Layout) (leading : SeenFragment × List ℕ) (bytes : List ℕ) → IsBytes bytes → 10 ≤ length bytes → 2 ^ 15 ≤ from_be_bytes w16 (take 2 (drop 6 bytes))
    → part_of (from_be_bytes w32 (take 4 (drop 2 bytes))) (from_be_bytes w32 (take 4 (drop 6 bytes)) - 2 ^ 31) (drop 10 bytes) ≡ Some leading
    → IsLeading layout (from_be_bytes w16 (take 2 bytes)) leading.0 leading.1 bytes
part-leads layout leading bytes fits long marked is =
    let len : ℕ = length (drop 10 bytes) - 1 in
    let word : ℕ = from_be_bytes w32 (take 4 (drop 6 bytes)) in
    let g = guarded (ltb (length (drop 10 bytes)) 1) _ leading is in
    let more : 1 ≤ length (drop 10 bytes) = ltb-false _ _ g.0 in
    let high : 2 ^ 31 ≤ word = high_word (drop 6 bytes) (omega (arith, length-drop 6 bytes)) marked in
    let below : word < 2 ^ 32 = word_below 6 bytes fits in
    let parts =
    header bytes (omega arith) fits
    ∙ ap (λ (x : List ℕ). to_be_bytes w16 (from_be_bytes w16 (take 2 bytes)) ++ (to_be_bytes w32 (from_be_bytes w32 (take 4 (drop 2 bytes))) ++ x))
    (number_at_place w32 (2 ^ 32) wide32 6 bytes long fits
    ∙ ap₂ (λ (n : ℕ) (x : List ℕ). to_be_bytes w32 n ++ x) (restored word high) (sym (take-append-drop len (drop 10 bytes)))) in
    subst (λ (p : SeenFragment × List ℕ). IsLeading layout (from_be_bytes w16 (take 2 bytes)) p.0 p.1 bytes) (the_same g.1) (record {
      parts = parts;
      number = wide16.below (take 2 bytes) (IsBytes-take 2 bytes fits);
      fits = (word_below 2 bytes fits, omega arith);
      its_bytes = omega (arith, length-drop len (drop 10 bytes));
      some = omega (arith, length-drop len (drop 10 bytes));
    })
  where
    restored : (n : ℕ) → 2 ^ 31 ≤ n → n ≡ 2 ^ 31 + (n - 2 ^ 31)
    restored n le = omega arith

pub found-leading : (layout : Layout) (f : SeenFragment) (after bytes : List ℕ) → IsBytes bytes → leading_of layout bytes ≡ Some (f, after)
    → IsLeading layout (from_be_bytes w16 (take 2 bytes)) f after bytes
found-leading layout f after bytes fits e =
    let mark : ℕ = from_be_bytes w16 (take 2 (drop 6 bytes)) in
    let number : ℕ = from_be_bytes w32 (take 4 (drop 2 bytes)) in
    let g = guarded (ltb (length bytes) 8) _ (f, after) e in
    let long : 8 ≤ length bytes = ltb-false _ _ g.0 in
    elim (chosen (ltb mark (2 ^ 15)) _ _ (Some (f, after)) g.1) [
      | inl w ↦ whole-leads layout mark (f, after) bytes fits long (ltb-true _ _ w.0) refl w.1
      | inr w ↦
          let h = guarded (ltb (length bytes) 10) _ (f, after) w.1 in
          part-leads layout (f, after) bytes fits (ltb-false _ _ h.0) (ltb-false _ _ w.0) h.1
    ]

-- ---- the table's number

pub other_table : (table : ℕ) (bytes : List ℕ) → IsBytes bytes → 2 ≤ length bytes → from_be_bytes w16 (take 2 bytes) ≢ table → HasOtherTable table bytes
other_table table bytes fits long other = record {
  number = from_be_bytes w16 (take 2 bytes);
  rest = drop 2 bytes;
  fits = wide16.below (take 2 bytes) (IsBytes-take 2 bytes fits);
  parts = number_first w16 (2 ^ 16) wide16 bytes long fits;
  other = other;
}

pub other_table-is : (table : ℕ) (bytes : List ℕ) → HasOtherTable table bytes → (2 ≤ length bytes) × (from_be_bytes w16 (take 2 bytes) ≢ table)
other_table-is table bytes has =
    (rw has.parts (omega (arith, length-append (to_be_bytes w16 has.number) has.rest)), λ same. has.other (sym (half_back has.number has.rest has.fits) ∙ subst (λ (x : List ℕ). from_be_bytes w16 (take 2 x) ≡ table) has.parts same))

pub leading-number : (layout : Layout) (table : ℕ) (f : SeenFragment) (after bytes : List ℕ) → IsLeading layout table f after bytes → (from_be_bytes w16 (take 2 bytes) ≡ table) × (8 + length after ≤ length bytes)
leading-number layout table (whole first count bytes) after all s = rw s.parts (wide16.again table s.number, omega (arith, length-append bytes after))
leading-number layout table (part number offset bytes) after all s = rw s.parts (wide16.again table s.number, omega (arith, length-append bytes after))

pub leading-of_table : (layout : Layout) (table : ℕ) (f : SeenFragment) (after bytes : List ℕ) → IsLeading layout table f after bytes → HasOtherTable table bytes → ⊥
leading-of_table layout table f after bytes s other = (other_table-is table bytes other).1 (leading-number layout table f after bytes s).0

-- ---- the rest

pub rest_of-length : (f : SeenFragment) (after : List ℕ) → 0 < length after → (0 < length (rest_of f after)) × (length (rest_of f after) ≤ length after)
rest_of-length (whole first zero bytes) after some = (omega (arith, length-drop (length after - 1) after), omega (arith, length-drop (length after - 1) after))
rest_of-length (whole first (suc n) bytes) after some = (some, omega arith)
rest_of-length (part number offset bytes) after some = (some, omega arith)

whole-shorter : (layout : Layout) (first count : ℕ) (bytes : List ℕ) (leading : SeenFragment × List ℕ) → whole_of layout first count bytes ≡ Some leading → (0 < length leading.1) × (length leading.1 ≤ length bytes)
whole-shorter layout first count bytes leading e =
    let len : ℕ = run_len layout count in
    let g = guarded (leb (length bytes) len) _ leading e in
    let more : len < length bytes = leb-false _ _ g.0 in
    subst (λ (p : SeenFragment × List ℕ). (0 < length p.1) × (length p.1 ≤ length bytes)) (the_same g.1) (omega (arith, length-drop len bytes), omega (arith, length-drop len bytes))

part-shorter : (number offset : ℕ) (bytes : List ℕ) (leading : SeenFragment × List ℕ) → part_of number offset bytes ≡ Some leading → (0 < length leading.1) × (length leading.1 ≤ length bytes)
part-shorter number offset bytes leading e =
    let len : ℕ = length bytes - 1 in
    let g = guarded (ltb (length bytes) 1) _ leading e in
    let more : 1 ≤ length bytes = ltb-false _ _ g.0 in
    subst (λ (p : SeenFragment × List ℕ). (0 < length p.1) × (length p.1 ≤ length bytes)) (the_same g.1) (omega (arith, length-drop len bytes), omega (arith, length-drop len bytes))

pub leading-shorter : (layout : Layout) (bytes : List ℕ) (leading : SeenFragment × List ℕ) → leading_of layout bytes ≡ Some leading → (0 < length leading.1) × (length leading.1 < length bytes)
leading-shorter layout bytes leading e =
    let mark : ℕ = from_be_bytes w16 (take 2 (drop 6 bytes)) in
    let g = guarded (ltb (length bytes) 8) _ leading e in
    let long : 8 ≤ length bytes = ltb-false _ _ g.0 in
    elim (chosen (ltb mark (2 ^ 15)) _ _ (Some leading) g.1) [
      | inl w ↦ (let h = whole-shorter layout _ mark (drop 8 bytes) leading w.1 in (h.0, omega (arith, h.1, length-drop 8 bytes)))
      | inr w ↦
          (let h = part-shorter _ _ (drop 10 bytes) leading (guarded (ltb (length bytes) 10) _ leading w.1).1 in (h.0, omega (arith, h.1, length-drop 10 bytes)))
    ]

-- ---- the list of the fragments

after_same : (leading : Option (SeenFragment × List ℕ)) (f g : List ℕ → List SeenFragment) → ((p : SeenFragment × List ℕ) → leading ≡ Some p → f (rest_of p.0 p.1) ≡ g (rest_of p.0 p.1))
    → listed_after leading f ≡ listed_after leading g
after_same None f g same = refl
after_same (Some p) f g same = ap (λ (fs : List SeenFragment). p.0 ∷ fs) (same p refl)

-- it doesn't depend on how much is allowed
pub listed_within-more : (n m : ℕ) (layout : Layout) (bytes : List ℕ) → length bytes ≤ n → length bytes ≤ m → listed_within n layout bytes ≡ listed_within m layout bytes
listed_within-more zero zero layout bytes ln lm = refl
listed_within-more zero (suc m) layout [] ln lm = refl
listed_within-more zero (suc m) layout (b ∷ bytes) ln lm = absurd (omega arith)
listed_within-more (suc n) zero layout [] ln lm = refl
listed_within-more (suc n) zero layout (b ∷ bytes) ln lm = absurd (omega arith)
listed_within-more (suc n) (suc m) layout bytes ln lm =
    after_same (leading_of layout bytes) (listed_within n layout) (listed_within m layout) (λ leading e.
    let s = leading-shorter layout bytes leading e in
    let r = rest_of-length leading.0 leading.1 s.0 in
    listed_within-more n m layout (rest_of leading.0 leading.1) (omega arith) (omega arith))

pub listed-none : (layout : Layout) (bytes : List ℕ) → leading_of layout bytes ≡ None → listed layout bytes ≡ []
listed-none layout [] e = refl
listed-none layout (b ∷ bytes) e = ap (λ (leading : Option (SeenFragment × List ℕ)). listed_after leading (listed_within (length bytes) layout)) e

pub listed-some : (layout : Layout) (bytes : List ℕ) (leading : SeenFragment × List ℕ) → leading_of layout bytes ≡ Some leading → listed layout bytes ≡ leading.0 ∷ listed layout (rest_of leading.0 leading.1)
listed-some layout [] leading e = absurd (omega (arith, (leading-shorter layout [] leading e).1))
listed-some layout (b ∷ bytes) leading e =
    let s = leading-shorter layout (b ∷ bytes) leading e in
    let r = rest_of-length leading.0 leading.1 s.0 in
    ap (λ (leading : Option (SeenFragment × List ℕ)). listed_after leading (listed_within (length bytes) layout)) e
    ∙ ap (λ (fs : List SeenFragment). leading.0 ∷ fs) (listed_within-more (length bytes) (length (rest_of leading.0 leading.1)) layout (rest_of leading.0 leading.1) (omega arith) (omega arith))

-- what is found at the leading, where no other table's number is, is of the table
pub the_table : (layout : Layout) (table : ℕ) (f : SeenFragment) (after bytes : List ℕ) → IsBytes bytes → (HasOtherTable table bytes → ⊥) → leading_of layout bytes ≡ Some (f, after)
    → IsLeading layout table f after bytes
the_table layout table f after bytes fits none e =
    let s = found-leading layout f after bytes fits e in
    let n = leading-number layout _ f after bytes s in
    elim (cases_eq (from_be_bytes w16 (take 2 bytes)) table) [
      | inl same ↦ subst (λ (t : ℕ). IsLeading layout t f after bytes) same s
      | inr other ↦ absurd (none (other_table table bytes fits (omega (arith, n.1)) other))
    ]

pub nothing_leads : (layout : Layout) (table : ℕ) (f : SeenFragment) (after bytes : List ℕ) → leading_of layout bytes ≡ None → IsLeading layout table f after bytes → ⊥
nothing_leads layout table f after bytes none s = let e : ◌≡◌ {A = Option (SeenFragment × List ℕ)} None (Some (f, after)) = sym none ∙ leading-found layout table f after bytes s in cc

-- where the last of some times is there, all are
pub all_times : (t first i : Nsec) (count last : ℕ) (P : Type 0) → t ≡ first → FitsSigned w32 t.sec → last ≡ count - 1 → 0 < count
    → (P → HasLater t i last) × (HasLater t i last → P) → (P → (k : ℕ) → k < count → HasLater first i k) × (((k : ℕ) → k < count → HasLater first i k) → P)
all_times t first i count last P e fits is some has = (
  λ p k lt. subst (λ (x : Nsec). HasLater x i k) e (earlier_too t i k last fits (omega arith) (has.0 p)),
  λ all. has.1 (subst (λ (x : Nsec). HasLater x i last) (sym e) (all last (omega arith))),
)

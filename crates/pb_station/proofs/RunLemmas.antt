-- Records of a ring, as they are sent.
use Rattle.std.proofs.Common.{◌≡◌, ℕ, zero, suc, ◌+◌, ◌≤◌, Bool, true, false, cond, List, [], ◌∷◌, ◌++◌, length, take, drop, slice_get, Some, refl, sym, ap, ap₂, subst, ◌∙◌, length-append, arith}
use Rattle.std.specs.List.{AllByRecursion, flat_map}
use Rattle.std.proofs.Math.Seq.{take-append_seam}
use Rattle.pb_base.specs.declared.layout.Layout.{Layout}
use Rattle.pb_base.specs.World.{StoredRecord}
use Rattle.pb_base.specs.Record.{content, run_len}
use Rattle.pb_base.specs.Time.{time_bytes}
use Rattle.pb_ring.specs.Ring.{IsRecord, CopiesPart}
use Rattle.pb_station.specs.Collect.{run_bytes, field_bytes}
use Rattle.pb_station.specs.Inside.Commands.{content_part}
use Rattle.pb_station.proofs.WrittenLemmas.{get-drop}

pub all-drop : (P : StoredRecord → Type 0) (k : ℕ) (rs : List StoredRecord) → AllByRecursion P rs → AllByRecursion P (drop k rs)
all-drop P zero rs all = all
all-drop P (suc k) [] all = tt
all-drop P (suc k) (r ∷ rs) all = all-drop P k rs all.1

pub all-take : (P : StoredRecord → Type 0) (k : ℕ) (rs : List StoredRecord) → AllByRecursion P rs → AllByRecursion P (take k rs)
all-take P zero rs all = tt
all-take P (suc k) [] all = tt
all-take P (suc k) (r ∷ rs) all = (all.0, all-take P k rs all.1)

pub all-get : (P : StoredRecord → Type 0) (k : ℕ) (rs : List StoredRecord) (r : StoredRecord) → AllByRecursion P rs → slice_get rs k ≡ Some r → P r
all-get P k [] r all e = absurd cc
all-get P zero (q ∷ rs) r all e = let same : q ≡ r = cc in subst P same all.0
all-get P (suc k) (q ∷ rs) r all e = all-get P k rs r all.1 e

take-is : (n : ℕ) (xs : List ℕ) → length xs ≡ n → take n xs ≡ xs
take-is zero [] e = refl
take-is zero (x ∷ xs) e = absurd (omega (arith, e))
take-is (suc n) [] e = absurd (omega (arith, e))
take-is (suc n) (x ∷ xs) e = ap (λ ys. x ∷ ys) (take-is n xs (omega (arith, e)))

pub content-len : (len : ℕ) (r : StoredRecord) → length r.bytes ≡ len → length (content r) ≡ 8 + len
content-len len r s = length-append (time_bytes r.time) r.bytes ∙ ap (λ n. 8 + n) s

whole-part : (len : ℕ) (r : StoredRecord) → length r.bytes ≡ len → content_part 0 (8 + len) r ≡ content r
whole-part len r s = take-is (8 + len) (content r) (content-len len r s)

field-part : (len : ℕ) (r : StoredRecord) → length r.bytes ≡ len → content_part 8 len r ≡ field_bytes r
field-part len r s = take-is len r.bytes s

pub time-part : (r : StoredRecord) → content_part 0 8 r ≡ time_bytes r.time
time-part r = take-append_seam (time_bytes r.time) r.bytes

flat-same : (f g : StoredRecord → List ℕ) (P : StoredRecord → Type 0) → ((r : StoredRecord) → P r → f r ≡ g r) → (rs : List StoredRecord) → AllByRecursion P rs → flat_map f rs ≡ flat_map g rs
flat-same f g P same [] all = refl
flat-same f g P same (r ∷ rs) all = ap₂ (λ (x y : List ℕ). x ++ y) (same r all.0) (flat-same f g P same rs all.1)

pub events-run : (layout : Layout) (len : ℕ) (rs : List StoredRecord) → layout.event ≡ true → AllByRecursion (IsRecord len) rs → flat_map (content_part 0 (8 + len)) rs ≡ run_bytes layout rs
events-run layout len [] e all = refl
events-run layout len (r ∷ rs) e all =
    flat-same (content_part 0 (8 + len)) content (IsRecord len) (λ q p. whole-part len q p.0) (r ∷ rs) all
    ∙ ap (λ (b : Bool). cond b (flat_map content (r ∷ rs)) (time_bytes r.time ++ flat_map field_bytes (r ∷ rs))) (sym e)

-- a run begins with the record of its first number
record Starts (rs : List StoredRecord) (first : StoredRecord) : Type 0 where
  rest : List StoredRecord
  is : rs ≡ first ∷ rest

starts : (count : ℕ) (rs : List StoredRecord) (r : StoredRecord) → 1 ≤ count → slice_get rs 0 ≡ Some r → Starts (take count rs) r
starts zero rs r some e = absurd (omega (arith, some))
starts (suc count) [] r some e = absurd cc
starts (suc count) (q ∷ rs) r some e = let same : q ≡ r = cc in record { rest = take count rs; is = ap (λ (x : StoredRecord). x ∷ take count rs) same }

intervals : (layout : Layout) (len : ℕ) (rs : List StoredRecord) (r : StoredRecord) → layout.event ≡ false → Starts rs r → AllByRecursion (IsRecord len) rs
    → time_bytes r.time ++ flat_map (content_part 8 len) rs ≡ run_bytes layout rs
intervals layout len rs r e s all =
    let same = flat-same (content_part 8 len) field_bytes (IsRecord len) (λ q p. field-part len q p.0) rs all in
    ap (λ (x : List ℕ). time_bytes r.time ++ x) same
    ∙ ap (λ (x : List StoredRecord). time_bytes r.time ++ flat_map field_bytes x) s.is
    ∙ ap (λ (b : Bool). cond b (flat_map content (r ∷ s.rest)) (time_bytes r.time ++ flat_map field_bytes (r ∷ s.rest))) (sym e)
    ∙ ap (run_bytes layout) (sym s.is)

pub intervals-run : (layout : Layout) (len first count : ℕ) (all : List StoredRecord) (head : List ℕ) → layout.event ≡ false → 1 ≤ count → AllByRecursion (IsRecord len) all
    → CopiesPart all first 0 8 head → head ++ flat_map (content_part 8 len) (take count (drop first all)) ≡ run_bytes layout (take count (drop first all))
intervals-run layout len first count all head e some each copied =
    let here : slice_get (drop first all) 0 ≡ Some copied.stored =
    get-drop first 0 all ∙ ap (slice_get all) (plus-zero first) ∙ copied.is in
    ap (λ (x : List ℕ). x ++ flat_map (content_part 8 len) (take count (drop first all))) (copied.same ∙ time-part copied.stored)
    ∙ intervals layout len (take count (drop first all)) copied.stored e (starts count (drop first all) copied.stored some here) (all-take (IsRecord len) count (drop first all) (all-drop (IsRecord len) first all each))
  where
    plus-zero : (n : ℕ) → n + 0 ≡ n
    plus-zero n = omega arith

pub run-eight : (layout : Layout) (n : ℕ) → 1 ≤ n → layout.event ≡ false → 8 ≤ run_len layout n
run-eight layout zero some e = absurd (omega (arith, some))
run-eight layout (suc n) some e = rw e (omega arith)

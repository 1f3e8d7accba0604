-- Runs of records as they are sent: how long they are, and how many have room.
use Rattle.std.proofs.Common.{◌≡◌, ℕ, zero, suc, ◌*◌, ◌/◌, ◌≤◌, ◌<◌, Bool, true, false, cond, eqb, List, [], ◌∷◌, ◌++◌, length, take, drop, slice_get, Some, refl, sym, ap, subst, ◌∙◌, length-append, arith}
use Rattle.std.specs.List.{AllByRecursion, flat_map}
use Rattle.std.proofs.Math.Nat.{mul-le-mul_right}
use Rattle.std.proofs.lemmas.Bool.{eqb-false}
use Rattle.pb_base.specs.declared.layout.Layout.{Layout}
use Rattle.pb_base.specs.Time.{IsNormal, HasLater, time_bytes, time_of}
use Rattle.pb_base.specs.Record.{content, content_len, run_len}
use Rattle.pb_base.specs.World.{StoredRecord}
use Rattle.pb_ring.specs.Ring.{IsRecord}
use Rattle.pb_station.specs.Collect.{room_of, run_bytes, field_bytes}
use Rattle.pb_station.specs.Truth.{AreRegular}
use Rattle.pb_station.proofs.RunLemmas.{all-drop, all-get, content-len}
use Rattle.pb_station.proofs.CutLemmas.{time-of}
use Rattle.pb_station.proofs.TimesLemmas.{IsLater, regular-at, regular-from}

flat-len : (f : StoredRecord → List ℕ) (c : ℕ) (P : StoredRecord → Type 0) → ((r : StoredRecord) → P r → length (f r) ≡ c) → (rs : List StoredRecord) → AllByRecursion P rs → length (flat_map f rs) ≡ length rs * c
flat-len f c P same [] all = omega arith
flat-len f c P same (r ∷ rs) all = omega (arith, length-append (f r) (flat_map f rs), same r all.0, flat-len f c P same rs all.1)

-- a run has the bytes that so many records need
pub run-len : (layout : Layout) (rs : List StoredRecord) → AllByRecursion (IsRecord layout.record_len) rs → length (run_bytes layout rs) ≡ run_len layout (length rs)
run-len layout [] all = refl
run-len layout (r ∷ rs) all = by layout.event refl
  where
    by : (b : Bool) → layout.event ≡ b → length (run_bytes layout (r ∷ rs)) ≡ run_len layout (length (r ∷ rs))
    by true e = rw e (flat-len content (content_len layout) (IsRecord layout.record_len) (λ q is. content-len layout.record_len q is.0) (r ∷ rs) all)
    by false e = rw e (omega (arith, flat-len field_bytes layout.record_len (IsRecord layout.record_len) (λ q is. is.0) (r ∷ rs) all))

-- ---- how many have room

some-fit : (x c : ℕ) → 0 < c → c ≤ x → 1 ≤ x / c
some-fit x c some le = go (x / c) refl
  where
    go : (q : ℕ) → x / c ≡ q → 1 ≤ q
    go zero e = let none : c * (x / c) ≡ c * 0 = ap (λ (k : ℕ). c * k) e in absurd (omega (arith, none))
    go (suc q) e = omega arith

few-fit : (x c : ℕ) → 0 < c → x / c ≤ x
few-fit x zero some = absurd (omega (arith, some))
few-fit x (suc c) some =
    let p : 1 * (x / suc c) ≤ suc c * (x / suc c) = mul-le-mul_right (x / suc c) (omega arith) in
    omega (arith, p)

pub record HasRoom (n : ℕ) : Type 0 where
  pub some : 1 ≤ n
  pub few : n ≤ 32767

pub room-is : (layout : Layout) → content_len layout ≤ 960 → HasRoom (room_of layout)
room-is layout le = by layout.event (eqb layout.record_len 0) refl refl
  where
    by : (b e : Bool) → layout.event ≡ b → eqb layout.record_len 0 ≡ e → HasRoom (room_of layout)
    by true e be ee = rw be (record { some = some-fit 960 (content_len layout) (omega arith) le; few = omega (arith, few-fit 960 (content_len layout) (omega arith)) })
    by false true be ee = rw (be, ee) (record { some = omega arith; few = omega arith })
    by false false be ee =
        let nonzero : layout.record_len ≡ 0 → ⊥ = eqb-false layout.record_len 0 ee in
        let fit = some-fit 952 layout.record_len (omega (arith, nonzero)) (omega (arith, le)) in
        rw (be, ee) (record { some = omega (arith, fit); few = omega arith })

-- ---- the times of a run

-- each record of a run of a table of intervals is as many intervals after the first
pub run-later : (layout : Layout) (all : List StoredRecord) (from count : ℕ) → AllByRecursion (IsRecord layout.record_len) all → IsNormal layout.interval → AreRegular layout.interval all
    → (first : StoredRecord) → slice_get (take count (drop from all)) 0 ≡ Some first → (k : ℕ) (r : StoredRecord) → slice_get (take count (drop from all)) k ≡ Some r → IsLater first.time layout.interval r.time k
run-later layout all from count each normal regular first e k r g =
    let rs = drop from all in
    let e' = of-take count 0 rs first e in
    let g' = of-take count k rs r g in
    regular-at layout.interval rs first r k (regular-from layout.interval all from regular) normal e' (all-get (IsRecord layout.record_len) 0 rs first (all-drop (IsRecord layout.record_len) from all each) e').1 g'
  where
    of-take : (n j : ℕ) (xs : List StoredRecord) (x : StoredRecord) → slice_get (take n xs) j ≡ Some x → slice_get xs j ≡ Some x
    of-take zero j xs x p = absurd cc
    of-take (suc n) j [] x p = absurd cc
    of-take (suc n) zero (y ∷ xs) x p = p
    of-take (suc n) (suc j) (y ∷ xs) x p = of-take n j xs x p

-- so each has a time
pub run-timed : (layout : Layout) (rs : List StoredRecord) → layout.event ≡ false → AllByRecursion (IsRecord layout.record_len) rs
    → ((first : StoredRecord) → slice_get rs 0 ≡ Some first → (k : ℕ) (r : StoredRecord) → slice_get rs k ≡ Some r → IsLater first.time layout.interval r.time k)
    → (k : ℕ) → k < length rs → HasLater (time_of (run_bytes layout rs)) layout.interval k
run-timed layout [] e all later k lt = absurd (omega (arith, lt))
run-timed layout (r ∷ rs) e all later k lt =
    let x = there (r ∷ rs) k lt in
    let first : time_of (run_bytes layout (r ∷ rs)) ≡ r.time =
    ap (λ (b : Bool). time_of (cond b (flat_map content (r ∷ rs)) (time_bytes r.time ++ flat_map field_bytes (r ∷ rs)))) e ∙ time-of r.time (flat_map field_bytes (r ∷ rs)) all.0.1 all.0.2 in
    subst (λ t. HasLater t layout.interval k) (sym first) (later r refl k x.0 x.1).has
  where
    there : (qs : List StoredRecord) (j : ℕ) → j < length qs → (q : StoredRecord) × (slice_get qs j ≡ Some q)
    there [] j p = absurd (omega (arith, p))
    there (q ∷ qs) zero p = (q, refl)
    there (q ∷ qs) (suc j) p = there qs j (omega (arith, p))

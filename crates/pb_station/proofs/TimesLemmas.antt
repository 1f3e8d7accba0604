-- Times of records that follow one another by an interval.
use Rattle.std.proofs.Common.{◌≡◌, ℕ, zero, suc, ◌+◌, ◌*◌, ◌%◌, ℤ, pos, negsuc, ◌+ℤ◌, ◌*ℤ◌, ◌≤ℤ◌, ◌<ℤ◌, w32, List, [], ◌∷◌, drop, slice_get, Some, refl, ap, subst, sym, ◌∙◌, arith}
use Rattle.std.proofs.Math.IntN.{pos-*ℤ-pos, negsuc-*ℤ-pos}
use Rattle.std.proofs.lemmas.Int.{ints}
use Rattle.std.specs.Int.RustNames.{FitsSigned, unsigned_abs}
use Rattle.pb_base.specs.declared.nsec.Nsec.{Nsec}
use Rattle.pb_base.specs.Time.{HasSecond, HasLater, IsNormal, nanos, time_after, time_later}
use Rattle.pb_base.specs.World.{StoredRecord}
use Rattle.pb_base.proofs.TimeLemmas.{second_fits, total, later_is, carried, abs_is, later_normal, times_none, times_more, evenly}
use Rattle.pb_station.specs.Truth.{GoOn, AreRegular}

after-nanos : (t i : Nsec) (k : ℕ) → nanos (time_after t i k) ≡ nanos t +ℤ nanos i *ℤ pos k
after-nanos t i k = evenly t.sec i.sec t.nano i.nano k

later-nanos : (t i : Nsec) (k : ℕ) → IsNormal t → IsNormal i → nanos (time_later t i k) ≡ nanos t +ℤ nanos i *ℤ pos k
later-nanos t i k nt ni =
    sym (carried t.sec (i.sec *ℤ pos k) t.nano i.nano (unsigned_abs t.nano) (unsigned_abs i.nano) k (abs_is t.nano nt) (abs_is i.nano ni)) ∙ after-nanos t i k

times_split : (x : ℤ) (n : ℕ) → x *ℤ pos 1 +ℤ x *ℤ pos n ≡ x *ℤ pos (suc n)
times_split x n = rw (times_more x n, times_more x 0, times_none x) (omega (arith, ints))

-- one interval and then some more
both-nanos : (t i : Nsec) (n : ℕ) → IsNormal t → IsNormal i → nanos (time_after (time_later t i 1) i n) ≡ nanos (time_after t i (suc n))
both-nanos t i n nt ni =
    after-nanos (time_later t i 1) i n
    ∙ ap (λ (z : ℤ). z +ℤ nanos i *ℤ pos n) (later-nanos t i 1 nt ni)
    ∙ assoc (nanos t) (nanos i *ℤ pos 1) (nanos i *ℤ pos n) (nanos i *ℤ pos (suc n)) (times_split (nanos i) n)
    ∙ sym (after-nanos t i (suc n))
  where
    assoc : (a b c d : ℤ) → b +ℤ c ≡ d → a +ℤ b +ℤ c ≡ a +ℤ d
    assoc a b c d e = omega (arith, ints, e)

pub record IsLater (t i u : Nsec) (k : ℕ) : Type 0 where
  pub has : HasLater t i k
  pub same : u ≡ time_later t i k

on-and-on : (t i u : Nsec) (n : ℕ) → HasLater t i 1 → IsLater (time_later t i 1) i u n → IsLater t i u (suc n)
on-and-on t i u n one more =
    let nanos_are = both-nanos t i n one.time one.step in
    record {
      has = record { time = one.time; step = one.step; second = subst HasSecond nanos_are more.has.second };
      same = later_is t i u (suc n) one.time one.step (subst IsNormal (sym more.same) (later_normal (time_later t i 1) i n))
          (ap nanos more.same ∙ later-nanos (time_later t i 1) i n (later_normal t i 1) one.step ∙ sym (after-nanos (time_later t i 1) i n) ∙ nanos_are);
    }

-- the record after so many intervals
kth : (i t : Nsec) (rs : List StoredRecord) (k : ℕ) (r : StoredRecord) → GoOn i t rs → slice_get rs k ≡ Some r → IsLater t i r.time (suc k)
kth i t [] k r on e = absurd cc
kth i t (q ∷ rs) zero r on e = let same : q ≡ r = cc in subst (λ (x : StoredRecord). IsLater t i x.time 1) same (record { has = on.0; same = on.1 })
kth i t (q ∷ rs) (suc k) r on e =
    on-and-on t i r.time (suc k) on.0 (subst (λ (u : Nsec). IsLater u i r.time (suc k)) on.1 (kth i q.time rs k r on.2 e))

time-fits : (t : Nsec) → FitsSigned w32 t.sec → IsNormal t → HasSecond (nanos t)
time-fits t fits normal = by t.nano normal
  where
    by : (n : ℤ) → (pos 0 ≤ℤ n) × (n <ℤ pos 1000000000) → HasSecond (total t.sec n)
    by (pos r) h = second_fits t.sec r (omega (arith, ints, h.1)) fits
    by (negsuc r) h = absurd (omega (arith, ints, h.0))

none-later : (t i : Nsec) → FitsSigned w32 t.sec → IsNormal t → IsNormal i → IsLater t i t 0
none-later t i fits nt ni =
    let same : nanos t ≡ nanos (time_after t i 0) = sym (after-nanos t i 0 ∙ plus (nanos t) (nanos i *ℤ pos 0) (times_none (nanos i))) in
    record {
      has = record { time = nt; step = ni; second = subst HasSecond same (time-fits t fits nt) };
      same = later_is t i t 0 nt ni nt same;
    }
  where
    plus : (a b : ℤ) → b ≡ pos 0 → a +ℤ b ≡ a
    plus a b e = omega (arith, ints, e)

regular-drop : (i : Nsec) (rs : List StoredRecord) (k : ℕ) → AreRegular i rs → AreRegular i (drop k rs)
regular-drop i rs zero regular = regular
regular-drop i [] (suc k) regular = tt
regular-drop i (q ∷ []) (suc zero) regular = tt
regular-drop i (q ∷ []) (suc (suc k)) regular = tt
regular-drop i (q ∷ (p ∷ rs)) (suc k) regular =
    regular-drop i (p ∷ rs) k (subst IsNormal (sym regular.1.1) (later_normal q.time i 1), regular.1.2)

-- the k-th record of a run is k intervals after the first
pub regular-at : (i : Nsec) (rs : List StoredRecord) (first r : StoredRecord) (k : ℕ) → AreRegular i rs → IsNormal i → slice_get rs 0 ≡ Some first → FitsSigned w32 first.time.sec → slice_get rs k ≡ Some r
    → IsLater first.time i r.time k
regular-at i [] first r k regular ni e fits g = absurd cc
regular-at i (q ∷ rs) first r zero regular ni e fits g =
    let same : q ≡ first = cc in
    let also : q ≡ r = cc in
    subst (λ (x : StoredRecord). IsLater first.time i x.time 0) (sym same ∙ also) (none-later first.time i fits (subst (λ (x : StoredRecord). IsNormal x.time) same regular.0) ni)
regular-at i (q ∷ rs) first r (suc k) regular ni e fits g =
    let same : q ≡ first = cc in
    kth i first.time rs k r (subst (λ (x : StoredRecord). GoOn i x.time rs) same regular.1) g

pub regular-from : (i : Nsec) (rs : List StoredRecord) (k : ℕ) → AreRegular i rs → AreRegular i (drop k rs)
regular-from = regular-drop

-- Changes of one table, one after the other.
use Rattle.std.proofs.Common.{◌≡◌, ℕ, zero, suc, List, [], ◌∷◌, length, None, Some, Result, Ok, Err, OnOk, OnErr, refl, sym, ◌∙◌, ap, subst, arith}
use Rattle.std.specs.Prelude.{slice_get}
use Rattle.std.proofs.lemmas.Option.{none-some, same_Some}
use Rattle.pb_archive.specs.Archive.{changed_at}
use Rattle.pb_archive.specs.Entry.{Advance, Advanced, Stopped}
use Rattle.pb_archive.specs.Opened.{Register, register_after, advanced, ended}
use Rattle.pb_archive.specs.declared.held.Held.{Held}
use Rattle.pb_archive.specs.declared.table_view.Stop.{Stop}
use Rattle.pb_archive.proofs.HeldLemmas.{length-changed_at}
use Rattle.pb_collect.specs.Changing.{GoesOnAs, ChangesOnly}
use Rattle.pb_collect.specs.Taking.{CanFollow}
use Rattle.pb_collect.proofs.FragmentLemmas.{get_below}
use Rattle.pb_collect.proofs.RequestLemmas.{get_changed, get_there}

-- ---- a place of a list

pub get_other : {A : Type 0} (f : A → A) (xs : List A) (id n : ℕ) → (n ≡ id → ⊥) → slice_get (changed_at id f xs) n ≡ slice_get xs n
get_other f [] id n other = refl
get_other f (x ∷ xs) zero zero other = absurd (other refl)
get_other f (x ∷ xs) zero (suc n) other = refl
get_other f (x ∷ xs) (suc id) zero other = refl
get_other f (x ∷ xs) (suc id) (suc n) other = get_other f xs id n (λ is. other (ap suc is))

-- ---- one table

pub same_as : (x y : Held) → y ≡ x → GoesOnAs x y
same_as x y is = record {
  station = ap (λ (h : Held). h.station) is;
  number = ap (λ (h : Held). h.number) is;
  table = ap (λ (h : Held). h.table) is;
  front = omega (arith, ap (λ (h : Held). h.front) is);
  gaps = omega (arith, ap (λ (h : Held). h.gaps) is);
  stop = λ stop was. ap (λ (h : Held). h.stop) is ∙ was;
}

as_trans : (x y z : Held) → GoesOnAs x y → GoesOnAs y z → GoesOnAs x z
as_trans x y z p q = record {
  station = q.station ∙ p.station;
  number = q.number ∙ p.number;
  table = q.table ∙ p.table;
  front = omega (arith, p.front, q.front);
  gaps = omega (arith, p.gaps, q.gaps);
  stop = λ stop was. q.stop stop (p.stop stop was);
}

-- ---- all of them

pub changes_none : (id : ℕ) (r s : Register) → s ≡ r → ChangesOnly id r s
changes_none id r s is = record {
  plan = ap (λ (x : Register). x.plan) is;
  count = ap (λ (x : Register). length x.tables) is;
  others = λ n other. ap (λ (x : Register). slice_get x.tables n) is;
  here = λ x y was then. same_as x y (same_Some y x (sym then ∙ (ap (λ (z : Register). slice_get z.tables id) is ∙ was)));
}

pub changes_trans : (id : ℕ) (r s t : Register) → ChangesOnly id r s → ChangesOnly id s t → ChangesOnly id r t
changes_trans id r s t p q = record {
  plan = q.plan ∙ p.plan;
  count = q.count ∙ p.count;
  others = λ n other. q.others n other ∙ p.others n other;
  here = λ x z was then.
      let y = get_there s.tables id (omega (arith, p.count, get_below r.tables id x was)) in
      as_trans x y.0 z (p.here x y.0 was y.1) (q.here y.0 z y.1 then);
}

-- an advance that may follow
changes_advanced : (id : ℕ) (r : Register) (a : Advance) → ((held : Held) → slice_get r.tables id ≡ Some held → CanFollow held (a ∷ [])) → ChangesOnly id r (register_after r (Advanced id a))
changes_advanced id r a can = record {
  plan = refl;
  count = length-changed_at (advanced a) r.tables id;
  others = λ n other. get_other (advanced a) r.tables id n other;
  here = λ x y was then.
      let is = get_changed (advanced a) r.tables id x y was then in
      let follows = (can x was).0 in
      record {
        station = ap (λ (h : Held). h.station) is;
        number = ap (λ (h : Held). h.number) is;
        table = ap (λ (h : Held). h.table) is;
        front = omega (arith, ap (λ (h : Held). h.front) is, follows.rises);
        gaps = omega (arith, ap (λ (h : Held). h.gaps) is);
        stop = λ stop had. ap (λ (h : Held). h.stop) is ∙ had;
      };
}

-- an advance that was made or not
pub changes_appended : {T E : Type 0} (result : Result T E) (id : ℕ) (r s : Register) (a : Advance) → ((held : Held) → slice_get r.tables id ≡ Some held → CanFollow held (a ∷ []))
    → OnOk result (s ≡ register_after r (Advanced id a)) → OnErr result (s ≡ r) → ChangesOnly id r s
changes_appended (Ok done) id r s a can is stays = subst (λ (x : Register). ChangesOnly id r x) (sym is) (changes_advanced id r a can)
changes_appended (Err fault) id r s a can is stays = changes_none id r s stays

-- a stop of a table that has none
pub changes_stopped : (id : ℕ) (r s : Register) (stop : Stop) (x : Held) → slice_get r.tables id ≡ Some x → x.stop ≡ None → s ≡ register_after r (Stopped id stop) → ChangesOnly id r s
changes_stopped id r s stop x there none is = record {
  plan = ap (λ (q : Register). q.plan) is;
  count = ap (λ (q : Register). length q.tables) is ∙ length-changed_at (ended stop) r.tables id;
  others = λ n other. ap (λ (q : Register). slice_get q.tables n) is ∙ get_other (ended stop) r.tables id n other;
  here = λ y z was then.
      let changed = get_changed (ended stop) r.tables id y z was (sym (ap (λ (q : Register). slice_get q.tables id) is) ∙ then) in
      record {
        station = ap (λ (h : Held). h.station) changed;
        number = ap (λ (h : Held). h.number) changed;
        table = ap (λ (h : Held). h.table) changed;
        front = omega (arith, ap (λ (h : Held). h.front) changed);
        gaps = omega (arith, ap (λ (h : Held). h.gaps) changed);
        stop = λ other had. absurd (none-some other (sym none ∙ (ap (λ (h : Held). h.stop) (same_Some x y (sym there ∙ was)) ∙ had)));
      };
}

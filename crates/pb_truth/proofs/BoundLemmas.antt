-- What a full answer does to a table's front and its partial record.
use Rattle.std.proofs.Common.{◌≡◌, ◌⊎◌, inl, inr, ⊎_elim, ℕ, zero, suc, ◌+◌, ◌<◌, ◌≤◌, Bool, true, false, List, [], ◌∷◌, ◌++◌, length, map, refl, ap, subst, arith, Some, length-append}
use Rattle.std.specs.Prelude.{Option, ◌==◌, if◌then◌else◌}
use Rattle.std.specs.List.{AllByRecursion}
use Rattle.std.proofs.lemmas.Bool.{eqb-true, eqb-false, cases_lt}
use Rattle.pb_base.specs.declared.layout.Layout.{Layout}
use Rattle.pb_base.specs.Record.{content, content_len, cut_records}
use Rattle.pb_bmp5.specs.CollectReply.{SeenFragment, whole, part, AreFragments}
use Rattle.pb_bmp5.specs.TrueReply.{HasNone, BeginsAt, IsBelow, EndsAt, IsLong}
use Rattle.pb_archive.specs.Archive.{Table, front, grown}
use Rattle.pb_truth.specs.Learning.{Known, without_partial, joined, learned}
use Rattle.pb_truth.specs.Bound.{has_some}
use Rattle.pb_truth.proofs.LearningLemmas.{front-grown, length-run, part_is_last}

-- ---- nothing is brought

pub none-learned : (layout : Layout) (fs : List SeenFragment) (k : Known) → HasNone fs → learned layout k fs ≡ k
none-learned layout [] k none = refl
none-learned layout (whole first zero bytes ∷ fs) k none = none-learned layout fs k none
none-learned layout (whole first (suc n) bytes ∷ fs) k none = absurd none
none-learned layout (part number offset bytes ∷ fs) k none = absurd none

pub none-some : (fs : List SeenFragment) → HasNone fs → has_some fs ≡ false
none-some [] none = refl
none-some (whole first zero bytes ∷ fs) none = none-some fs none
none-some (whole first (suc n) bytes ∷ fs) none = absurd none
none-some (part number offset bytes ∷ fs) none = absurd none

pub none-or-some : (fs : List SeenFragment) → HasNone fs ⊎ ((HasNone fs → ⊥) × (has_some fs ≡ true))
none-or-some [] = inl tt
none-or-some (whole first zero bytes ∷ fs) = none-or-some fs
none-or-some (whole first (suc n) bytes ∷ fs) = inr (λ none. none, refl)
none-or-some (part number offset bytes ∷ fs) = inr (λ none. none, refl)

pub none-ends : (layout : Layout) (s : ℕ) (fs : List SeenFragment) → HasNone fs → EndsAt layout s fs → ⊥
none-ends layout s [] none ends = ends
none-ends layout s (whole first zero bytes ∷ fs) none ends = ⊎_elim (λ here. here.0) (λ later. none-ends layout s fs none later) ends
none-ends layout s (whole first (suc n) bytes ∷ fs) none ends = none
none-ends layout s (part number offset bytes ∷ fs) none ends = none

-- ---- a part

-- The part made its record whole, or left it partial with its bytes added.
pub data PartLeft (layout : Layout) (n had len : ℕ) (k : Known) : Type 0 where
  IsWhole : k.partial ≡ [] → front k.table ≡ n + 1 → had + len ≡ content_len layout → PartLeft layout n had len k
  IsPartial : length k.partial ≡ had + len → front k.table ≡ n → had + len < content_len layout → PartLeft layout n had len k

less : (a b : ℕ) → a ≤ b → (a ≡ b → ⊥) → a < b
less a b le ne = ⊎_elim (λ l. l) (λ g. absurd (ne (omega (arith, le, g)))) (cases_lt a b)

pub part_left : (layout : Layout) (n : ℕ) (have bytes : List ℕ) (t : Table) → front t ≤ n → length have + length bytes ≤ content_len layout
    → PartLeft layout n (length have) (length bytes) (joined layout n (have ++ bytes) t)
part_left layout n have bytes t low within =
    cases (length (have ++ bytes) == content_len layout) (λ e. eqb-true (length (have ++ bytes)) (content_len layout) e)
    (λ e. eqb-false (length (have ++ bytes)) (content_len layout) e)
  where
    long : length (have ++ bytes) ≡ length have + length bytes
    long = length-append have bytes

    cases : (b : Bool) → (b ≡ true → length (have ++ bytes) ≡ content_len layout) → (b ≡ false → length (have ++ bytes) ≡ content_len layout → ⊥)
        → PartLeft layout n (length have) (length bytes)
        (if b then without_partial (grown n ((have ++ bytes) ∷ []) t) else record { table = grown n [] t; partial = have ++ bytes })
    cases true all other = IsWhole refl (omega (arith, front-grown n ((have ++ bytes) ∷ []) t low)) (omega (arith, all refl, long))
    cases false all other =
        IsPartial long (omega (arith, front-grown n [] t low)) (less (length have + length bytes) (content_len layout) within (λ same. other refl (omega (arith, same, long))))

-- ---- what there is after an answer

-- The records from a number on were learned, up to the end s at most: none is partial; or one is, with 256 bytes or more.
pub data Left (layout : Layout) (s : ℕ) (k : Known) : Type 0 where
  NonePartial : k.partial ≡ [] → front k.table ≤ s → Left layout s k
  OnePartial : 256 ≤ length k.partial → length k.partial < content_len layout → front k.table < s → Left layout s k

pub record Reached (layout : Layout) (s from : ℕ) (fs : List SeenFragment) (k : Known) : Type 0 where
  pub left : Left layout s k
  pub from_on : from ≤ front k.table
  pub ends : EndsAt layout s fs → (k.partial ≡ []) × (front k.table ≡ s)

-- something was: where no record is partial the front is past the number
pub record Passed (layout : Layout) (s from : ℕ) (fs : List SeenFragment) (k : Known) : Type 0 where
  pub reached : Reached layout s from fs k
  pub past : k.partial ≡ [] → from < front k.table

no_bytes : (xs : List ℕ) (n : ℕ) → length xs ≡ n → 0 < n → xs ≡ [] → ⊥
no_bytes xs n long some none = omega (arith, long, some, ap length none)

-- a part of a record from its first byte on
part_passed : (layout : Layout) (s n offset : ℕ) (bytes : List ℕ) (t : Table) → offset ≡ 0 → front t ≤ n → n < s → 0 < length bytes → length bytes ≤ content_len layout
    → IsLong layout (part n offset bytes) → Passed layout s n (part n offset bytes ∷ []) (joined layout n bytes t)
part_passed layout s n offset bytes t first low below some within long = by (part_left layout n [] bytes t low (omega (arith, within)))
  where
    by : PartLeft layout n 0 (length bytes) (joined layout n bytes t) → Passed layout s n (part n offset bytes ∷ []) (joined layout n bytes t)
    by (IsWhole none at all) = record {
      reached = record {
        left = NonePartial none (omega (arith, at, below));
        from_on = omega (arith, at);
        ends = λ e. (none, ⊎_elim (λ here. omega (arith, at, here.0.0)) (λ later. absurd later) e);
      };
      past = λ e. omega (arith, at);
    }
    by (IsPartial len at more) = record {
      reached = record {
        left = OnePartial (⊎_elim (λ many. omega (arith, len, many)) (λ whole. absurd (omega (arith, whole, first, more))) long)
            (omega (arith, len, more)) (omega (arith, at, below));
        from_on = omega (arith, at);
        ends = λ e. absurd (⊎_elim (λ here. omega (arith, here.0.1, first, more)) (λ later. later) e);
      };
      past = λ e. absurd (no_bytes (joined layout n bytes t).partial (0 + length bytes) len (omega (arith, some)) e);
    }

-- further fragments, which go on at the front
rest_reaches : (layout : Layout) (s table : ℕ) (fs : List SeenFragment) (t : Table) (last : ℕ) (body : List ℕ) → front t ≤ s
    → AreFragments table layout (Some (front t)) fs last body → AllByRecursion (IsBelow s) fs → AllByRecursion (IsLong layout) fs
    → Reached layout s (front t) fs (learned layout (without_partial t) fs)
rest_reaches layout s table [] t last body in_s are below long =
    record { left = NonePartial refl in_s; from_on = omega arith; ends = λ e. absurd e }
rest_reaches layout s table (whole first zero bytes ∷ fs) t last body in_s are below long =
    let on = are.1.formed.goes_on in
    let rest = rest_reaches layout s table fs t last are.0 in_s (subst (λ n. AreFragments table layout (Some n) fs last are.0) (omega (arith, on)) are.2) below.1 long.1 in
    record { left = rest.left; from_on = rest.from_on; ends = λ e. ⊎_elim (λ here. absurd here.0) (λ later. rest.ends later) e }
rest_reaches layout s table (whole first (suc k) bytes ∷ fs) t last body in_s are below long =
    let on = are.1.formed.goes_on in
    let cs = map content (cut_records layout (suc k) bytes) in
    let at = front-grown first cs t (omega (arith, on)) in
    let many = length-run layout (suc k) bytes in
    let rest = rest_reaches layout s table fs (grown first cs t) last are.0 (omega (arith, at, many, below.0))
    (subst (λ n. AreFragments table layout (Some n) fs last are.0) (omega (arith, at, many)) are.2) below.1 long.1 in
    record {
      left = rest.left;
      from_on = omega (arith, rest.from_on, at, many, on);
      ends = λ e. ⊎_elim
          (λ here.
          let same = none-learned layout fs (without_partial (grown first cs t)) here.1 in
          (ap (λ (x : Known). x.partial) same, omega (arith, ap (λ (x : Known). front x.table) same, at, many, here.0)))
          (λ later. rest.ends later) e;
    }
rest_reaches layout s table (part number offset bytes ∷ []) t last body in_s are below long =
    let on = are.1.formed.goes_on in
    let of = are.1.formed.of_layout in
    let passed = part_passed layout s number offset bytes t on.1 (omega (arith, on.0)) below.0 of.0 (omega (arith, of.1)) long.0 in
    record { left = passed.reached.left; from_on = omega (arith, passed.reached.from_on, on.0); ends = passed.reached.ends }
rest_reaches layout s table (part number offset bytes ∷ f ∷ fs) t last body in_s are below long =
    absurd (part_is_last table layout (Some (front t)) number offset bytes f fs last body are)

-- The fragments of an answer that begins at a record and has something.
pub some_pass : (layout : Layout) (s a table : ℕ) (before : Option ℕ) (fs : List SeenFragment) (t : Table) (last : ℕ) (body : List ℕ) → front t ≤ a
    → AreFragments table layout before fs last body → BeginsAt a fs → (HasNone fs → ⊥) → AllByRecursion (IsBelow s) fs → AllByRecursion (IsLong layout) fs
    → Passed layout s a fs (learned layout (without_partial t) fs)
some_pass layout s a table before [] t last body low are begins some below long = absurd (some tt)
some_pass layout s a table before (whole first zero bytes ∷ fs) t last body low are begins some below long =
    let rest = some_pass layout s a table (Some (first + 0)) fs t last are.0 low are.2 begins some below.1 long.1 in
    record {
      reached = record {
        left = rest.reached.left;
        from_on = rest.reached.from_on;
        ends = λ e. ⊎_elim (λ here. absurd here.0) (λ later. rest.reached.ends later) e;
      };
      past = rest.past;
    }
some_pass layout s a table before (whole first (suc k) bytes ∷ fs) t last body low are begins some below long =
    let cs = map content (cut_records layout (suc k) bytes) in
    let at = front-grown first cs t (omega (arith, low, begins)) in
    let many = length-run layout (suc k) bytes in
    let rest = rest_reaches layout s table fs (grown first cs t) last are.0 (omega (arith, at, many, below.0))
    (subst (λ n. AreFragments table layout (Some n) fs last are.0) (omega (arith, at, many)) are.2) below.1 long.1 in
    record {
      reached = record {
        left = rest.left;
        from_on = omega (arith, rest.from_on, at, many, begins);
        ends = λ e. ⊎_elim
            (λ here.
            let same = none-learned layout fs (without_partial (grown first cs t)) here.1 in
            (ap (λ (x : Known). x.partial) same, omega (arith, ap (λ (x : Known). front x.table) same, at, many, here.0)))
            (λ later. rest.ends later) e;
      };
      past = λ e. omega (arith, rest.from_on, at, many, begins);
    }
some_pass layout s a table before (part number offset bytes ∷ []) t last body low are begins some below long =
    let of = are.1.formed.of_layout in
    let passed = part_passed layout s number offset bytes t begins.1 (omega (arith, low, begins.0)) below.0 of.0 (omega (arith, of.1)) long.0 in
    record {
      reached = record { left = passed.reached.left; from_on = omega (arith, passed.reached.from_on, begins.0); ends = passed.reached.ends };
      past = λ e. omega (arith, passed.past e, begins.0);
    }
some_pass layout s a table before (part number offset bytes ∷ f ∷ fs) t last body low are begins some below long =
    absurd (part_is_last table layout before number offset bytes f fs last body are)

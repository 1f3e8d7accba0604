-- What is kept of an archive, and what its entries make of it.
use Rattle.std.proofs.Common.{◌≡◌, inl, inr, ℕ, zero, suc, ◌+◌, ◌-◌, ◌<◌, ◌≤◌, ◌^◌, Bool, true, false, List, [], ◌∷◌, ◌++◌, length, map, Some, None, Ok, Err, refl, sym, ap, subst, ◌∙◌, arith, length-append}
use Rattle.std.specs.Prelude.{Option, Result, slice_get, option_map, replicate, drop, if◌then◌else◌, ◌==◌}
use Rattle.std.specs.List.{AllByRecursion}
use Rattle.std.proofs.lemmas.List.{length-map, length-replicate}
use Rattle.std.proofs.lemmas.Option.{none-some, same_Some, slice_get-map, slice_get_within}
use Rattle.pb_base.specs.declared.layout.Layout.{Layout}
use Rattle.pb_base.specs.Record.{content, content_len, cut_records, records_from}
use Rattle.pb_tdf.specs.Definition.{Definition, has_asciiz}
use Rattle.pb_tdf.specs.declared.fault.Uncollectable.{Uncollectable}
use Rattle.pb_tdf.specs.View.{layout_of, view_of, no_layout}
use Rattle.pb_archive.specs.Plan.{stations_max}
use Rattle.pb_archive.specs.Archive.{Table, Archive, record_layout, changed_at, grown, stopped}
use Rattle.pb_archive.specs.Entry.{Advance, Change, Added, Advanced, Stopped, pieces, contents, HasForm, IsAllowed, new_table, archive_after}
use Rattle.pb_archive.specs.Inside.{IsSpelled, IsOther, CanAdvanceHere, AllowsHere, IsHeld, IsRegister}
use Rattle.pb_archive.specs.Opened.{Register, gaps_in, held_of, kept_of, advanced, ended, register_after}
use Rattle.pb_archive.specs.declared.held.Held.{Held}
use Rattle.pb_archive.proofs.HeldLemmas.{Each-get}

-- ---- places

module _ {A B : Type 0} (f : A → B) where
  some_before : (r : Option A) (y : B) → option_map f r ≡ Some y → (x : A) × (r ≡ Some x) × (y ≡ f x)
  some_before None y is = absurd (none-some y is)
  some_before (Some x) y is = (x, refl, sym (same_Some _ _ is))

  pub at_before : (xs : List A) (i : ℕ) (y : B) → slice_get (map f xs) i ≡ Some y → (x : A) × (slice_get xs i ≡ Some x) × (y ≡ f x)
  at_before xs i y is = some_before (slice_get xs i) y (sym (slice_get-map f xs i) ∙ is)

  pub at_after : (xs : List A) (i : ℕ) (x : A) → slice_get xs i ≡ Some x → slice_get (map f xs) i ≡ Some (f x)
  at_after xs i x is = slice_get-map f xs i ∙ ap (option_map f) is

  pub map-changed_at : (c : A → A) (d : B → B) (xs : List A) (i : ℕ) → ((x : A) → slice_get xs i ≡ Some x → f (c x) ≡ d (f x)) → map f (changed_at i c xs) ≡ changed_at i d (map f xs)
  map-changed_at c d [] i same = refl
  map-changed_at c d (x ∷ xs) zero same = ap (λ (y : B). y ∷ map f xs) (same x refl)
  map-changed_at c d (x ∷ xs) (suc i) same = ap (λ (l : List B). f x ∷ l) (map-changed_at c d xs i same)

  pub map-push : (xs : List A) (x : A) → map f (xs ++ x ∷ []) ≡ map f xs ++ f x ∷ []
  map-push [] x = refl
  map-push (y ∷ xs) x = ap (λ (l : List B). f y ∷ l) (map-push xs x)

pub Each-from : {A : Type 0} (P : A → Type 0) (xs : List A) → ((i : ℕ) (x : A) → slice_get xs i ≡ Some x → P x) → AllByRecursion P xs
Each-from P [] holds = tt
Each-from P (x ∷ xs) holds = (holds 0 x refl, Each-from P xs (λ i y is. holds (suc i) y is))

-- ---- layouts

module _ (d : Definition) (l : Layout) where
  chosen : (b : Bool) → (if b then Err no_layout else Ok (record_layout d)) ≡ Ok l → (b ≡ false) × (l ≡ record_layout d)
  chosen true is = absurd (cc)
  chosen false is = (refl, cc)

  pub has_layout : layout_of d ≡ Ok l → (has_asciiz d.fields ≡ false) × (l ≡ record_layout d)
  has_layout is = chosen (has_asciiz d.fields) is

pub layout_there : (d : Definition) → has_asciiz d.fields ≡ false → layout_of d ≡ Ok (record_layout d)
layout_there d none = ap (λ (b : Bool). let r : Result Layout Uncollectable = if b then Err no_layout else Ok (record_layout d) in r) none

-- ---- contents

length-pieces : (size n : ℕ) (bytes : List ℕ) → length (pieces size n bytes) ≡ n
length-pieces size zero bytes = refl
length-pieces size (suc n) bytes = ap suc (length-pieces size n (drop size bytes))

length-records_from : (layout : Layout) (run : List ℕ) (k n : ℕ) → length (records_from layout run k n) ≡ n
length-records_from layout run k zero = refl
length-records_from layout run k (suc n) = ap suc (length-records_from layout run (suc k) n)

pub length-contents : (layout : Layout) (a : Advance) → length (contents layout a) ≡ a.count
length-contents layout a = by (a.form == 0)
  where
    by : (b : Bool) → length (if b then pieces (content_len layout) a.count a.bytes else map content (cut_records layout a.count a.bytes)) ≡ a.count
    by true = length-pieces (content_len layout) a.count a.bytes
    by false = length-map (cut_records layout a.count a.bytes) content ∙ length-records_from layout a.bytes 0 a.count

-- ---- gaps

pub gaps-append : (xs ys : List (Option (List ℕ))) → gaps_in (xs ++ ys) ≡ gaps_in xs + gaps_in ys
gaps-append [] ys = omega arith
gaps-append (None ∷ xs) ys = omega (arith, gaps-append xs ys)
gaps-append (Some bytes ∷ xs) ys = gaps-append xs ys

gaps-replicate : (n : ℕ) → gaps_in (replicate n None) ≡ n
gaps-replicate zero = refl
gaps-replicate (suc n) = omega (arith, gaps-replicate n)

gaps-kept : (contents : List (List ℕ)) → gaps_in (map Some contents) ≡ 0
gaps-kept [] = refl
gaps-kept (bytes ∷ contents) = gaps-kept contents

module _ (first : ℕ) (cs : List (List ℕ)) (t : Table) (le : length t.rows ≤ first) where
  more : List (Option (List ℕ))
  more = replicate (first - length t.rows) None ++ map Some cs

  pub front-grown : length (grown first cs t).rows ≡ first + length cs
  front-grown =
      omega (
        arith,
        length-append t.rows (replicate (first - length t.rows) None ++ map Some cs),
        length-append (replicate {A = Option (List ℕ)} (first - length t.rows) None) (map Some cs),
        length-replicate {A = Option (List ℕ)} (first - length t.rows) None,
        length-map cs Some,
      )

  pub gaps-grown : gaps_in (grown first cs t).rows ≡ gaps_in t.rows + (first - length t.rows)
  gaps-grown =
      omega (
        arith,
        gaps-append t.rows (replicate (first - length t.rows) None ++ map Some cs),
        gaps-append (replicate (first - length t.rows) None) (map Some cs),
        gaps-replicate (first - length t.rows),
        gaps-kept cs,
      )

held-grown : (a : Advance) (t : Table) → length t.rows ≤ a.first
    → held_of (grown a.first (contents (record_layout t.definition) a) t) ≡ advanced a (held_of t)
held-grown a t le =
    let cs = contents (record_layout t.definition) a in
    let front : length (grown a.first cs t).rows ≡ a.first + a.count = front-grown a.first cs t le ∙ ap (λ (n : ℕ). a.first + n) (length-contents (record_layout t.definition) a) in
    let gaps = gaps-grown a.first cs t le in
    λ j. record { station = t.station; number = record { 0 = t.key.number }; table = view_of t.definition; front = front j; gaps = gaps j; stop = t.stop }

-- what an allowed change makes of what is kept
pub kept_after : (a : Archive) (change : Change) → IsAllowed a change → kept_of (archive_after a change) ≡ register_after (kept_of a) change
kept_after a (Added station number d) allowed = ap (λ (l : List Held). let r : Register = record { plan = a.plan; tables = l } in r) (map-push held_of a.tables (new_table a.plan station number d))
kept_after a (Advanced id adv) allowed =
    ap (λ (l : List Held). let r : Register = record { plan = a.plan; tables = l } in r)
    (map-changed_at held_of _ (advanced adv) a.tables id
    (λ t is. held-grown adv t (let same = same_Some _ _ (sym (allowed.1).there ∙ is) in subst (λ (u : Table). length u.rows ≤ adv.first) same (allowed.2).first)))
kept_after a (Stopped id stop) allowed =
    ap (λ (l : List Held). let r : Register = record { plan = a.plan; tables = l } in r) (map-changed_at held_of (stopped stop) (ended stop) a.tables id (λ t is. refl))

-- ---- the rules, by what is kept

module _ (a : Archive) where
  pub allowed_here : (change : Change) → AllowsHere (kept_of a) change → IsSpelled change → IsAllowed a change
  allowed_here (Added station number d) here spelled = record {
    there = here.there;
    has_two_bytes = spelled.1;
    new = λ id t is. Each-get (IsOther station number) (map held_of a.tables) id (held_of t) (at_after held_of a.tables id t is) here.new;
    defined = spelled.2;
    collected = (has_layout d here.collected.0 here.collected.1).0;
    room = omega (arith, here.room, length-map a.tables held_of);
  }
  allowed_here (Advanced id adv) here spelled =
      let t = at_before held_of a.tables id here.0 here.1.there in
      let going = ap (λ (h : Held). h.stop) (sym t.2) ∙ here.1.going_on in
      let can : CanAdvanceHere (held_of t.0) adv = subst (λ (h : Held). CanAdvanceHere h adv) t.2 here.2 in (
        t.0,
        record { there = t.1; going_on = going },
        record {
          first = can.first;
          rises = can.rises;
          count = spelled.3;
          numbers = can.numbers;
          form = subst (λ (l : Layout). HasForm l adv) (has_layout t.0.definition can.layout can.has_layout).1 can.form;
          few = can.few;
        },
      )
  allowed_here (Stopped id stop) here spelled =
      let t = at_before held_of a.tables id here.0 here.1.there in
      (t.0, record { there = t.1; going_on = ap (λ (h : Held). h.stop) (sym t.2) ∙ here.1.going_on }, spelled.1)

  module _ (kept : IsRegister (kept_of a)) (few : length a.plan.stations ≤ stations_max) where
    layout_at : (id : ℕ) (t : Table) → slice_get a.tables id ≡ Some t → layout_of t.definition ≡ Ok (record_layout t.definition)
    layout_at id t is =
        let held = Each-get (IsHeld a.plan) (map held_of a.tables) id (held_of t) (at_after held_of a.tables id t is) kept.each in
        let has = has_layout t.definition held.layout.0 held.layout.1 in
        held.layout.1 ∙ ap (λ (l : Layout). let r : Result Layout Uncollectable = Ok l in r) has.1

    pub here_allowed : (change : Change) → IsAllowed a change → AllowsHere (kept_of a) change
    here_allowed (Added station number d) allowed = record {
      there = allowed.there;
      new = Each-from (IsOther station number) (map held_of a.tables)
          (λ id h is. let t = at_before held_of a.tables id h is in subst (IsOther station number) (sym t.2) (allowed.new id t.0 t.1));
      collected = (record_layout d, layout_there d allowed.collected);
      room = omega (arith, allowed.room, length-map a.tables held_of);
    }
    here_allowed (Advanced id adv) allowed =
        let t = allowed.0 in
        let can = allowed.2 in (
          held_of t,
          record { there = at_after held_of a.tables id t allowed.1.there; going_on = allowed.1.going_on },
          record {
            first = can.first;
            rises = can.rises;
            numbers = can.numbers;
            layout = record_layout t.definition;
            has_layout = layout_at id t allowed.1.there;
            form = can.form;
            few = can.few;
          },
        )
    here_allowed (Stopped id stop) allowed = (held_of allowed.0, record { there = at_after held_of a.tables id allowed.0 allowed.1.there; going_on = allowed.1.going_on })

    id_small : (id : ℕ) (t : Table) → slice_get a.tables id ≡ Some t → id < 2 ^ 16
    id_small id t is = omega (arith, slice_get_within a.tables id t is, kept.few, length-map a.tables held_of)

    pub spelled_allowed : (change : Change) → IsAllowed a change → IsSpelled change
    spelled_allowed (Added station number d) allowed = (omega (arith, allowed.there, few), allowed.has_two_bytes, allowed.defined)
    spelled_allowed (Advanced id adv) allowed =
        let can = allowed.2 in
        (id_small id allowed.0 allowed.1.there, form_small can.form, omega (arith, can.numbers), can.count)
      where
        form_small : {l : Layout} {b : Advance} → HasForm l b → b.form < 2 ^ 8
        form_small (inl whole) = omega (arith, whole.form)
        form_small (inr timed) = omega (arith, timed.form)
    spelled_allowed (Stopped id stop) allowed = (id_small id allowed.0 allowed.1.there, allowed.2)

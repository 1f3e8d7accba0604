-- The tables of an archive: each is there once, and a change keeps what it is true of.
use Rattle.std.proofs.Common.{◌≡◌, ◌⊎◌, inl, inr, ⊎_elim, ℕ, zero, suc, ◌<◌, List, [], ◌∷◌, ◌++◌, length, Some, refl, sym, ◌∙◌, ap, subst, arith, length-append}
use Rattle.std.specs.Prelude.{Option, slice_get}
use Rattle.std.specs.List.{AllByRecursion}
use Rattle.std.proofs.lemmas.Option.{same_Some, none-some}
use Rattle.pb_base.specs.World.{World}
use Rattle.pb_base.specs.History.{TableKey, History, IsFront, history}
use Rattle.pb_tdf.specs.View.{signature_of}
use Rattle.pb_archive.specs.declared.plan.StationPlan.{StationPlan}
use Rattle.pb_archive.specs.Plan.{Plan, Differs, AreDifferent, IsPlan}
use Rattle.pb_archive.specs.Archive.{Table, Archive, record_layout, changed_at, grown, stopped}
use Rattle.pb_archive.specs.Entry.{Change, Added, Advanced, Stopped, contents, IsAllowed, created, address_of, new_table, archive_after, Leads, IsArchive}
use Rattle.pb_archive.specs.Truth.{RowsAreTrue, SoundTable, Sound}
use Rattle.pb_truth.specs.Asked.{HasOneEach}
use Rattle.pb_truth.specs.Image.{StaysTrue}

-- ---- places in lists

-- with one more at the end
pushed_at : {A : Type 0} (xs : List A) (x : A) (i : ℕ) (y : A) → slice_get (xs ++ x ∷ []) i ≡ Some y → (slice_get xs i ≡ Some y) ⊎ ((i ≡ length xs) × (x ≡ y))
pushed_at [] x zero y is = inr (refl, same_Some x y is)
pushed_at [] x (suc i) y is = absurd (none-some y is)
pushed_at (z ∷ xs) x zero y is = inl is
pushed_at (z ∷ xs) x (suc i) y is = ⊎_elim (λ old. inl old) (λ new. inr (ap suc new.0, new.1)) (pushed_at xs x i y is)

-- with one of them changed
changed_one : {A : Type 0} (n : ℕ) (f : A → A) (xs : List A) (i : ℕ) (y : A) → slice_get (changed_at n f xs) i ≡ Some y
    → (x : A) × (slice_get xs i ≡ Some x) × ((x ≡ y) ⊎ ((i ≡ n) × (f x ≡ y)))
changed_one n f [] i y is = absurd (none-some y is)
changed_one zero f (x ∷ xs) zero y is = (x, refl, inr (refl, same_Some (f x) y is))
changed_one zero f (x ∷ xs) (suc i) y is = (y, is, inl refl)
changed_one (suc n) f (x ∷ xs) zero y is = (y, is, inl refl)
changed_one (suc n) f (x ∷ xs) (suc i) y is = let one = changed_one n f xs i y is in (one.0, one.1, ⊎_elim (λ same. inl same) (λ new. inr (ap suc new.0, new.1)) one.2)

all_at : {A : Type 0} (P : A → Type 0) (xs : List A) (i : ℕ) (x : A) → AllByRecursion P xs → slice_get xs i ≡ Some x → P x
all_at P [] i x all is = absurd (none-some x is)
all_at P (y ∷ xs) zero x all is = subst P (same_Some y x is) all.0
all_at P (y ∷ xs) (suc i) x all is = all_at P xs i x all.1 is

-- ---- each table once

-- stations of one address are one
one_station : (ss : List StationPlan) → AreDifferent ss → (i j : ℕ) (s t : StationPlan) → slice_get ss i ≡ Some s → slice_get ss j ≡ Some t → s.addr ≡ t.addr → i ≡ j
one_station [] different i j s t a b same = absurd (none-some s a)
one_station (x ∷ ss) different zero zero s t a b same = refl
one_station (x ∷ ss) different zero (suc j) s t a b same =
    absurd ((all_at (Differs x) ss j t different.0 b).0 (sym same ∙ sym (ap (λ (y : StationPlan). y.addr) (same_Some x s a))))
one_station (x ∷ ss) different (suc i) zero s t a b same =
    absurd ((all_at (Differs x) ss i s different.0 a).0 (same ∙ sym (ap (λ (y : StationPlan). y.addr) (same_Some x t b))))
one_station (x ∷ ss) different (suc i) (suc j) s t a b same = ap suc (one_station ss different.1 i j s t a b same)

pub record IsOf (p : Plan) (t : Table) : Type 0 where
  pub me : t.me ≡ p.me
  pub address : t.key.station ≡ address_of (slice_get p.stations t.station)
  pub within : t.station < length p.stations
  pub signature : t.key.signature ≡ signature_of t.definition

-- what is so of every archive of entries
pub record IsKept (a : Archive) : Type 0 where
  pub plan : IsPlan a.plan
  pub each : (id : ℕ) (t : Table) → slice_get a.tables id ≡ Some t → IsOf a.plan t
  pub one : (i j : ℕ) (t u : Table) → slice_get a.tables i ≡ Some t → slice_get a.tables j ≡ Some u → t.station ≡ u.station → t.key.number ≡ u.key.number → i ≡ j

-- a change of a table's rows or stop
record SameSlot (t u : Table) : Type 0 where
  me : u.me ≡ t.me
  station : u.station ≡ t.station
  key : u.key ≡ t.key
  definition : u.definition ≡ t.definition

changed_kept : (a : Archive) (n : ℕ) (f : Table → Table) → ((t : Table) → SameSlot t (f t)) → IsKept a → IsKept (record a { tables = changed_at n f a.tables })
changed_kept a n f same kept = record {
  plan = kept.plan;
  each = λ id u is.
      let x = slot id u is in
      let of = kept.each id x.0 x.1 in
      record {
        me = x.2.me ∙ of.me;
        address = ap (λ (k : TableKey). k.station) x.2.key ∙ of.address ∙ ap (λ s. address_of (slice_get a.plan.stations s)) (sym x.2.station);
        within = omega (arith, x.2.station, of.within);
        signature = ap (λ (k : TableKey). k.signature) x.2.key ∙ of.signature ∙ ap signature_of (sym x.2.definition);
      };
  one = λ i j t u is_t is_u station number.
      let x = slot i t is_t in
      let y = slot j u is_u in
      kept.one i j x.0 y.0 x.1 y.1 (sym x.2.station ∙ station ∙ y.2.station)
      (sym (ap (λ (k : TableKey). k.number) x.2.key) ∙ number ∙ ap (λ (k : TableKey). k.number) y.2.key);
}
  where
    slot : (id : ℕ) (u : Table) → slice_get (changed_at n f a.tables) id ≡ Some u → (t : Table) × (slice_get a.tables id ≡ Some t) × SameSlot t u
    slot id u is =
        let x = changed_one n f a.tables id u is in
        (x.0, x.1, ⊎_elim (λ old. subst (λ y. SameSlot x.0 y) old (record { me = refl; station = refl; key = refl; definition = refl })) (λ new. subst (λ y. SameSlot x.0 y) new.1 (same x.0)) x.2)

kept_after : (a : Archive) (change : Change) → IsKept a → IsAllowed a change → IsKept (archive_after a change)
kept_after a (Added station number definition) kept allowed = record {
  plan = kept.plan;
  each = λ id t is. ⊎_elim (λ old. kept.each id t old)
      (λ new. subst (λ u. IsOf a.plan u) new.1 (record { me = refl; address = refl; within = allowed.there; signature = refl })) (pushed_at a.tables fresh id t is);
  one = λ i j t u is_t is_u same_station same_number.
      ⊎_elim (λ old_t. ⊎_elim (λ old_u. kept.one i j t u old_t old_u same_station same_number)
      (λ new_u. absurd (allowed.new i t old_t (same_station ∙ ap (λ (x : Table). x.station) (sym new_u.1)) (same_number ∙ ap (λ (x : Table). x.key.number) (sym new_u.1)))) (pushed_at a.tables fresh j u is_u))
      (λ new_t. ⊎_elim (λ old_u. absurd (allowed.new j u old_u (sym same_station ∙ ap (λ (x : Table). x.station) (sym new_t.1)) (sym same_number ∙ ap (λ (x : Table). x.key.number) (sym new_t.1))))
      (λ new_u. new_t.0 ∙ sym new_u.0) (pushed_at a.tables fresh j u is_u))
      (pushed_at a.tables fresh i t is_t);
}
  where
    fresh : Table
    fresh = new_table a.plan station number definition
kept_after a (Advanced id advance) kept allowed =
    changed_kept a id (λ t. grown advance.first (contents (record_layout t.definition) advance) t) (λ t. record { me = refl; station = refl; key = refl; definition = refl }) kept
kept_after a (Stopped id stop) kept allowed = changed_kept a id (stopped stop) (λ t. record { me = refl; station = refl; key = refl; definition = refl }) kept

leads_kept : (bodies : List (List ℕ)) (a b : Archive) → IsKept a → Leads a bodies b → IsKept b
leads_kept [] a b kept leads = subst (λ x. IsKept x) (sym leads) kept
leads_kept (body ∷ bodies) a b kept leads = leads_kept bodies (archive_after a leads.0) b (kept_after a leads.0 kept leads.2) leads.3

pub is_kept : (bodies : List (List ℕ)) (a : Archive) → IsArchive bodies a → IsKept a
is_kept [] a is = absurd is
is_kept (body ∷ bodies) a is = leads_kept bodies (created is.0) a (record {
  plan = is.2;
  each = λ id t at. absurd (none-some t at);
  one = λ i j t u at. absurd (none-some t at);
}) is.3

-- the station at a place within
station_there : (ss : List StationPlan) (i : ℕ) → i < length ss → (s : StationPlan) × (slice_get ss i ≡ Some s)
station_there [] i lt = absurd (omega (arith, lt))
station_there (s ∷ ss) zero lt = (s, refl)
station_there (s ∷ ss) (suc i) lt = station_there ss i (omega (arith, lt))

pub each_once : (bodies : List (List ℕ)) (a : Archive) → IsArchive bodies a → HasOneEach a
each_once bodies a is = record {
  own = λ id t at. let of = (is_kept bodies a is).each id t at in of.me;
  one = λ i j t u at_t at_u me station number.
      let kept = is_kept bodies a is in
      let of_t = kept.each i t at_t in
      let of_u = kept.each j u at_u in
      let s = station_there a.plan.stations t.station of_t.within in
      let r = station_there a.plan.stations u.station of_u.within in
      let same : s.0.addr ≡ r.0.addr = sym (ap address_of s.1) ∙ sym of_t.address ∙ station ∙ of_u.address ∙ ap address_of r.1 in
      let place = one_station a.plan.stations kept.plan.begun.different t.station u.station s.0 r.0 s.1 r.1 same in
      let id = kept.one i j t u at_t at_u place number in
      same_Some t u (sym at_t ∙ ap (λ n. slice_get a.tables n) id ∙ at_u);
}

-- ---- truth after a change

sound_changed : (a : Archive) (h : TableKey → History) (n : ℕ) (f : Table → Table) → Sound a h
    → ((t : Table) → slice_get a.tables n ≡ Some t → SoundTable (f t) (h (f t).key)) → Sound (record a { tables = changed_at n f a.tables }) h
sound_changed a h n f sound now id u is =
    let x = changed_one n f a.tables id u is in
    ⊎_elim (λ old. subst (λ y. SoundTable y (h y.key)) old (sound id x.0 x.1))
    (λ new. subst (λ y. SoundTable y (h y.key)) new.1 (now x.0 (subst (λ i. slice_get a.tables i ≡ Some x.0) new.0 x.1))) x.2

pub sound_after : (w : World) (a : Archive) (change : Change) → Sound a (history w) → StaysTrue w a change → Sound (archive_after a change) (history w)
sound_after w a (Added station number definition) sound stays = λ id t is.
    ⊎_elim (λ old. sound id t old) (λ new. subst (λ u. SoundTable u (history w u.key)) new.1 (record { below = omega arith; fit = tt }))
    (pushed_at a.tables (new_table a.plan station number definition) id t is)
sound_after w a (Advanced id advance) sound stays = λ place u is.
    sound_changed a (history w) id (λ t. grown advance.first (contents (record_layout t.definition) advance) t) sound stays place u is
sound_after w a (Stopped id stop) sound stays = λ place u is.
    sound_changed a (history w) id (stopped stop) sound (λ t there. let s = sound id t there in record { below = s.below; fit = s.fit }) place u is

-- ---- fewer rows

fit_front : (h : History) (n : ℕ) (xs ys : List (Option (List ℕ))) → RowsAreTrue h n (xs ++ ys) → RowsAreTrue h n xs
fit_front h n [] ys fit = tt
fit_front h n (x ∷ xs) ys fit = (fit.0, fit_front h (suc n) xs ys fit.1)

pub sound_front : (t u : Table) (h : History) → IsFront t.rows u.rows → SoundTable u h → SoundTable t h
sound_front t u h (more, same) sound = record {
  below = omega (arith, sound.below, ap length same, length-append t.rows more);
  fit = fit_front h 0 t.rows more (subst (λ l. RowsAreTrue h 0 l) same sound.fit);
}

-- Plans to which stations are added.
use Rattle.pb_archive.specs.Find.{has_name}
use Rattle.std.specs.Prelude.{position, None, Option, Some, cond, not, nat_lt}
use Rattle.std.proofs.Common.{ap₂, subst, ◌+◌, suc}
use Rattle.std.proofs.lemmas.Bool.{le-ltb}
use Rattle.std.proofs.lemmas.List.{length-map}
use Rattle.std.proofs.Common.{◌≡◌, ◌≢◌, ℕ, ◌<◌, true, false, List, [], ◌∷◌, ◌++◌, length, map, refl, sym, ap, ◌∙◌, arith, length-append}
use Rattle.std.specs.List.{AllByRecursion, list_any, prefix_len}
use Rattle.std.specs.Str.{bytes_eq}
use Rattle.std.specs.Prelude.{Bool, ◌||◌, if◌then◌else◌}
use Rattle.indexmap.specs.IndexSet.{insert_key}
use Rattle.pb_archive.specs.Find.{has_name}
use Rattle.std.specs.Prelude.{position, None, Option, Some, cond, not, nat_lt}
use Rattle.std.proofs.Common.{ap₂, subst, ◌+◌, suc}
use Rattle.std.proofs.lemmas.Bool.{le-ltb}
use Rattle.std.proofs.lemmas.List.{length-map}
use Rattle.std.proofs.Common.{true≢false}
use Rattle.std.proofs.lemmas.Slice.Eq.{bytes_eq-Decides}
use Rattle.pb_archive.specs.Plan.{IsAddress, IsStationName, Plan, stations_max, IsStation, IsBegun, Differs, AreDifferent, with_station}
use Rattle.pb_archive.specs.Inside.{name_of}
use Rattle.pb_archive.specs.declared.plan.StationPlan.{StationPlan}

module _ {X : Type 0} (P : X → Type 0) where
  pub Each-append : (xs ys : List X) → AllByRecursion P xs → AllByRecursion P ys → AllByRecursion P (xs ++ ys)
  Each-append [] ys first second = second
  Each-append (x ∷ xs) ys first second = (first.0, Each-append xs ys first.1 second)

  pub Each-left : (xs ys : List X) → AllByRecursion P (xs ++ ys) → AllByRecursion P xs
  Each-left [] ys each = tt
  Each-left (x ∷ xs) ys each = (each.0, Each-left xs ys each.1)

  pub Each-right : (xs ys : List X) → AllByRecursion P (xs ++ ys) → AllByRecursion P ys
  Each-right [] ys each = each
  Each-right (x ∷ xs) ys each = Each-right xs ys each.1

  pub Each-both : (Q R : X → Type 0) → ((x : X) → P x → Q x → R x) → (xs : List X) → AllByRecursion P xs → AllByRecursion Q xs → AllByRecursion R xs
  Each-both Q R holds [] p q = tt
  Each-both Q R holds (x ∷ xs) p q = (holds x p.0 q.0, Each-both Q R holds xs p.1 q.1)

  pub Each-weaker : (Q : X → Type 0) → ((x : X) → P x → Q x) → (xs : List X) → AllByRecursion P xs → AllByRecursion Q xs
  Each-weaker Q holds [] p = tt
  Each-weaker Q holds (x ∷ xs) p = (holds x p.0, Each-weaker Q holds xs p.1)

AreDifferent-push : (stations : List StationPlan) (s : StationPlan) → AreDifferent stations → AllByRecursion (λ t. Differs t s) stations → AreDifferent (stations ++ s ∷ [])
AreDifferent-push [] s differ new = (tt, tt)
AreDifferent-push (t ∷ stations) s differ new =
    (Each-append (Differs t) stations (s ∷ []) differ.0 (new.0, tt), AreDifferent-push stations s differ.1 new.1)

AreDifferent-last : (stations more : List StationPlan) (s : StationPlan) → AreDifferent (stations ++ s ∷ more) → AllByRecursion (λ t. Differs t s) stations
AreDifferent-last [] more s differ = tt
AreDifferent-last (t ∷ stations) more s differ = ((Each-right (Differs t) stations (s ∷ more) differ.0).0, AreDifferent-last stations more s differ.1)

AreDifferent-left : (stations more : List StationPlan) → AreDifferent (stations ++ more) → AreDifferent stations
AreDifferent-left [] more differ = tt
AreDifferent-left (t ∷ stations) more differ = (Each-left (Differs t) stations more differ.0, AreDifferent-left stations more differ.1)

-- a further station that differs from the others
pub begun_with : (p : Plan) (s : StationPlan) → IsBegun p → length p.stations < stations_max → IsStation p.me s → AllByRecursion (λ t. Differs t s) p.stations → IsBegun (with_station p s)
begun_with p s begun few is differs = record {
  me = begun.me;
  via = begun.via;
  few = omega (arith, length-append p.stations (s ∷ []));
  each = Each-append (IsStation p.me) p.stations (s ∷ []) begun.each (is, tt);
  different = AreDifferent-push p.stations s begun.different differs;
}

-- the last station is one, is no other, and wasn't too many
pub with_few : (p : Plan) (s : StationPlan) → IsBegun (with_station p s) → length p.stations < stations_max
with_few p s begun = omega (arith, begun.few, length-append p.stations (s ∷ []))

pub with_is : (p : Plan) (s : StationPlan) → IsBegun (with_station p s) → IsStation p.me s
with_is p s begun = (Each-right (IsStation p.me) p.stations (s ∷ []) begun.each).0

pub with_differs : (p : Plan) (s : StationPlan) → IsBegun (with_station p s) → AllByRecursion (λ t. Differs t s) p.stations
with_differs p s begun = AreDifferent-last p.stations [] s begun.different

-- the beginning of a plan with one station more
pub begun_before : (q p : Plan) (s : StationPlan) (more : List StationPlan) → IsBegun q → q.me ≡ p.me → q.via ≡ p.via → q.stations ≡ p.stations ++ s ∷ more → IsBegun (with_station p s)
begun_before q p s more begun me via is =
    let each = subst (AllByRecursion (IsStation p.me)) is (subst (λ (m : ℕ). AllByRecursion (IsStation m) q.stations) me begun.each) in
    let different = subst AreDifferent is begun.different in
    let last = Each-right (IsStation p.me) p.stations (s ∷ more) each in
    record {
      me = subst IsAddress me begun.me;
      via = subst IsAddress via begun.via;
      few = omega (arith, begun.few, ap length is, length-append p.stations (s ∷ more), length-append p.stations (s ∷ []));
      each = Each-append (IsStation p.me) p.stations (s ∷ []) (Each-left (IsStation p.me) p.stations (s ∷ more) each) (last.0, tt);
      different = AreDifferent-push p.stations s (AreDifferent-left p.stations (s ∷ more) different) (AreDifferent-last p.stations more s different);
    }

pub names-push : (stations : List StationPlan) (s : StationPlan) → map name_of (stations ++ s ∷ []) ≡ map name_of stations ++ s.name ∷ []
names-push [] s = refl
names-push (t ∷ stations) s = ap (λ l. t.name ∷ l) (names-push stations s)

-- ---- names

none_before : (b c : Bool) → (b || c) ≡ false → (b ≡ true → ⊥) × (c ≡ false)
none_before true c is = absurd (true≢false is)
none_before false c is = (λ e. true≢false (sym e), is)

some_of : (b c : Bool) → (b || c) ≡ true → (b ≡ true → ⊥) → c ≡ true
some_of true c is none = absurd (none refl)
some_of false c is none = is

-- the names of the stations don't have this one
pub names_free : (stations : List StationPlan) (name : List ℕ) → list_any (bytes_eq name) (map name_of stations) ≡ false → AllByRecursion (λ s. name ≢ s.name) stations
names_free [] name is = tt
names_free (s ∷ stations) name is =
    let split = none_before (bytes_eq name s.name) (list_any (bytes_eq name) (map name_of stations)) is in
    (λ same. split.0 ((bytes_eq-Decides name s.name).1 same), names_free stations name split.1)

-- they have it
pub names_taken : (stations : List StationPlan) (name : List ℕ) → list_any (bytes_eq name) (map name_of stations) ≡ true → AllByRecursion (λ s. name ≢ s.name) stations → ⊥
names_taken [] name is free = true≢false (sym is)
names_taken (s ∷ stations) name is free =
    names_taken stations name (some_of (bytes_eq name s.name) _ is (λ e. free.0 ((bytes_eq-Decides name s.name).0 e))) free.1

absent : (stations : List StationPlan) (name : List ℕ) → AllByRecursion (λ s. name ≢ s.name) stations → list_any (bytes_eq name) (map name_of stations) ≡ false
absent [] name free = refl
absent (s ∷ stations) name free = none_of (bytes_eq name s.name) _ (absent stations name free.1) (λ e. free.0 ((bytes_eq-Decides name s.name).0 e))
  where
    none_of : (b c : Bool) → c ≡ false → (b ≡ true → ⊥) → (b || c) ≡ false
    none_of true c is none = absurd (none refl)
    none_of false c is none = is

-- a new name goes last
pub names_insert : (stations : List StationPlan) (s : StationPlan) (keys : List (List ℕ)) → keys ≡ map name_of stations → AllByRecursion (λ t. Differs t s) stations
    → insert_key bytes_eq keys s.name ≡ map name_of (stations ++ s ∷ [])
names_insert stations s keys is differs =
    let free = absent stations s.name (Each-weaker (λ t. Differs t s) (λ t. s.name ≢ t.name) (λ t d. d.1) stations differs) in
    ap (λ l. insert_key bytes_eq l s.name) is
    ∙ ap (λ (b : Bool). if b then map name_of stations else map name_of stations ++ s.name ∷ []) free
    ∙ sym (names-push stations s)

prefix-names : (name : List ℕ) (stations : List StationPlan) → prefix_len (λ x. not (bytes_eq name x)) (map name_of stations) ≡ prefix_len (λ s. not (has_name name s)) stations
prefix-names name [] = refl
prefix-names name (s ∷ stations) = ap (λ (n : ℕ). if not (bytes_eq name s.name) then 1 + n else 0) (prefix-names name stations)

abbrev place_if : ℕ → ℕ → Option ℕ
place_if n len = cond (nat_lt n len) (Some n) None

pub position-names : (name : List ℕ) (stations : List StationPlan) → position (bytes_eq name) (map name_of stations) ≡ position (has_name name) stations
position-names name stations = ap₂ place_if (prefix-names name stations) (length-map stations name_of)

unlike : (name : List ℕ) (s : StationPlan) → (IsStationName name → ⊥) → IsStationName s.name → (b : Bool) → bytes_eq name s.name ≡ b → b ≡ false
unlike name s none is true same = absurd (none (subst IsStationName (sym ((bytes_eq-Decides name s.name).0 same)) is))
unlike name s none is false same = refl

prefix-none : (name : List ℕ) (me : ℕ) (stations : List StationPlan) → (IsStationName name → ⊥) → AllByRecursion (IsStation me) stations
    → prefix_len (λ s. not (has_name name s)) stations ≡ length stations
prefix-none name me [] none each = refl
prefix-none name me (s ∷ stations) none each =
    ap₂ (λ (b : Bool) (n : ℕ). if not b then 1 + n else 0) (unlike name s none each.0.name (bytes_eq name s.name) refl) (prefix-none name me stations none each.1) ∙ one_more (length stations)
  where
    one_more : (n : ℕ) → 1 + n ≡ suc n
    one_more n = omega arith

-- no station has a name that is none
pub position-none : (name : List ℕ) (me : ℕ) (stations : List StationPlan) → (IsStationName name → ⊥) → AllByRecursion (IsStation me) stations → position (has_name name) stations ≡ None
position-none name me stations none each =
    ap (λ (n : ℕ). place_if n (length stations)) (prefix-none name me stations none each) ∙ ap (λ (b : Bool). cond b (Some (length stations)) None) (le-ltb (length stations) (length stations) (omega arith))

-- The tables of a new station, one after another.
use Rattle.std.proofs.Common.{◌≡◌, ◌⊎◌, inl, inr, ℕ, zero, suc, ◌+◌, ◌-◌, ◌*◌, ◌/◌, ◌≤◌, ◌<◌, Bool, true, false, cond, IsTrue, ℤ, pos, negsuc, ◌≤ℤ◌, ◌<ℤ◌, ◌||◌, eqb, ltb, List, [], ◌∷◌, ◌++◌, length, take, drop, slice_get, map, subst, Option, Some, Result, Ok, Err, refl, sym, add-one, ap, ap₂, ◌∙◌, arith}
use Rattle.std.proofs.Math.Nat.{mul-le-mul_right}
use Rattle.std.proofs.lemmas.Bool.{and_parts, ltb-true, eq-eqb, ne_eqb, lt-ltb, le-ltb, or_left, or_right, or_from}
use Rattle.pb_base.specs.declared.layout.Layout.{Layout}
use Rattle.std.specs.List.{AllByRecursion}
use Rattle.std.proofs.lemmas.Int.{ints}
use Rattle.pb_base.specs.Record.{content_len}
use Rattle.pb_base.specs.Time.{IsNormal}
use Rattle.pb_tdf.specs.declared.fault.Uncollectable.{Uncollectable as NoLayout}
use Rattle.pb_tdf.specs.Definition.{Definition, IsTable, is_interval, is_second, is_nano, record_bytes_max, all_record_bytes, has_asciiz}
use Rattle.pb_tdf.specs.View.{TableView, view_of, no_layout, is_event}
use Rattle.pb_tdf.specs.Numbering.{numbered}
use Rattle.pb_station.specs.declared.fault.StationFault.{StationFault}
use Rattle.pb_station.specs.declared.fault.StationFault.TheVariants.{Uncollectable, BadSize}
use Rattle.pb_station.specs.State.{KeptTable, Table, TablesStandFor}
use Rattle.pb_station.specs.Inside.Tables.{AreMade, IsMade}
use Rattle.pb_station.specs.Making.{first_fault, AreEmpty, ring_bytes, ring_bytes_max, table_number}

-- ---- how many records have room

pub few : (x c size : ℕ) → 0 < c → size ≤ x / c → size * c ≤ x
few x c size some le = let p : size * c ≤ x / c * c = mul-le-mul_right c le in omega (arith, p)

pub many : (x c size : ℕ) → 0 < c → x / c < size → x < size * c
many x c size some lt = let p : suc (x / c) * c ≤ size * c = mul-le-mul_right c lt in omega (arith, p)

pub over-by : (used a b c : ℕ) (layout : Layout) → used ≤ ring_bytes_max → a ≡ b → c ≡ content_len layout → ring_bytes_max - used < a * c → ring_bytes_max < used + b * content_len layout
over-by used a b c layout within ea ec over =
    let same : a * c ≡ b * content_len layout = ap₂ (λ (x y : ℕ). x * y) ea ec in
    omega (arith, over, same)

-- ---- the first table's fault, or that of the later ones

abbrev by_size : (number used : ℕ) → TableView → List TableView → Layout → Option StationFault
by_size number used view views layout =
    cond (eqb view.size 0 || ltb ring_bytes_max (used + ring_bytes view layout)) (Some (BadSize (table_number number))) (first_fault (number + 1) (used + ring_bytes view layout) views)

abbrev by_layout : (number used : ℕ) → TableView → List TableView → Result Layout NoLayout → Option StationFault
by_layout number used view views r =
    elim r as (λ layout. Option StationFault) [
      | Err none ↦ Some (Uncollectable (table_number number))
      | Ok layout ↦ by_size number used view views layout
    ]

pub no-layout : (number used : ℕ) (view : TableView) (views : List TableView) (e : NoLayout) → view.layout ≡ Err e → first_fault number used (view ∷ views) ≡ Some (Uncollectable (table_number number))
no-layout number used view views e is = ap (by_layout number used view views) is

pub bad-size : (number used : ℕ) (view : TableView) (views : List TableView) (layout : Layout) → view.layout ≡ Ok layout → (view.size ≡ 0) ⊎ (ring_bytes_max < used + ring_bytes view layout)
    → first_fault number used (view ∷ views) ≡ Some (BadSize (table_number number))
bad-size number used view views layout is (inl none) =
    ap (by_layout number used view views) is
    ∙ ap (λ (b : Bool). cond b (Some (BadSize (table_number number))) (first_fault (number + 1) (used + ring_bytes view layout) views)) (or_left _ _ (eq-eqb view.size 0 none))
bad-size number used view views layout is (inr over) =
    ap (by_layout number used view views) is
    ∙ ap (λ (b : Bool). cond b (Some (BadSize (table_number number))) (first_fault (number + 1) (used + ring_bytes view layout) views)) (or_right (eqb view.size 0) _ (lt-ltb ring_bytes_max (used + ring_bytes view layout) over))

pub good-size : (number used : ℕ) (view : TableView) (views : List TableView) (layout : Layout) → view.layout ≡ Ok layout → 0 < view.size → used + ring_bytes view layout ≤ ring_bytes_max
    → first_fault number used (view ∷ views) ≡ first_fault (number + 1) (used + ring_bytes view layout) views
good-size number used view views layout is some within =
    ap (by_layout number used view views) is
    ∙ ap (λ (b : Bool). cond b (Some (BadSize (table_number number))) (first_fault (number + 1) (used + ring_bytes view layout) views))
    (or_from (eqb view.size 0) _ (ne_eqb view.size 0 (λ e. omega (arith, e, some))) (le-ltb ring_bytes_max (used + ring_bytes view layout) within))

-- ---- one table after another

pub numbered-at : (views : List TableView) (k : ℕ) → numbered views (k + 1) ≡ slice_get views k
numbered-at views k = rw (add-one k) refl

pub drop-here : (views : List TableView) (k : ℕ) (view : TableView) → slice_get views k ≡ Some view → drop k views ≡ view ∷ drop (suc k) views
drop-here [] k view e = absurd cc
drop-here (v ∷ views) zero view e = let same : v ≡ view = cc in ap (λ (x : TableView). x ∷ views) same
drop-here (v ∷ views) (suc k) view e = drop-here views k view e

-- the first fault goes on after this table
pub goes-past : (views : List TableView) (number used after k : ℕ) (view : TableView) (r : Option StationFault) → slice_get views k ≡ Some view
    → ((left : List TableView) → first_fault number used (view ∷ left) ≡ first_fault (number + 1) after left)
    → r ≡ first_fault number used (drop k views) → r ≡ first_fault (number + 1) after (drop (k + 1) views)
goes-past views number used after k view r e on is = rw (add-one k) (is ∙ ap (first_fault number used) (drop-here views k view e) ∙ on (drop (suc k) views))

pub made-more : (views : List TableView) (tables : List KeptTable) (k : ℕ) (view : TableView) (table : KeptTable) → AreMade (take k views) tables → slice_get views k ≡ Some view → IsMade view table
    → AreMade (take (suc k) views) (tables ++ table ∷ [])
made-more [] tables k view table made e is = absurd cc
made-more (v ∷ views) [] zero view table made e is = let same : v ≡ view = cc in (subst (λ (x : TableView). IsMade x table) (sym same) is, tt)
made-more (v ∷ views) (t ∷ tables) zero view table made e is = absurd made
made-more (v ∷ views) [] (suc k) view table made e is = absurd made
made-more (v ∷ views) (t ∷ tables) (suc k) view table made e is = (made.0, made-more views tables k view table made.1 e is)

pub all-made : (views : List TableView) (k : ℕ) → length views ≤ k → take k views ≡ views
all-made [] zero le = refl
all-made [] (suc k) le = refl
all-made (v ∷ views) zero le = absurd (omega (arith, le))
all-made (v ∷ views) (suc k) le = ap (λ vs. v ∷ vs) (all-made views k (omega (arith, le)))

pub none-left : (views : List TableView) (k : ℕ) → length views ≤ k → drop k views ≡ []
none-left [] zero le = refl
none-left [] (suc k) le = refl
none-left (v ∷ views) zero le = absurd (omega (arith, le))
none-left (v ∷ views) (suc k) le = none-left views k (omega (arith, le))

-- ---- new tables

abbrev pub empty_of : KeptTable → Table
empty_of kept = record { signature = kept.signature; layout = kept.layout; capacity = kept.ring.capacity; stored = [] }

pub are-empty : (views : List TableView) (kept : List KeptTable) → AreMade views kept → AreEmpty views (map empty_of kept)
are-empty [] [] made = tt
are-empty [] (k ∷ kept) made = absurd made
are-empty (v ∷ views) [] made = absurd made
are-empty (v ∷ views) (k ∷ kept) made =
    (record { signature = made.0.signature; layout = made.0.layout; capacity = made.0.size; stored = refl }, are-empty views kept made.1)

is-not-negative : (t : ℤ) → is_nano t ≡ true → (pos 0 ≤ℤ t) × (t <ℤ pos 1000000000)
is-not-negative (pos n) e = let lt : n < 1000000000 = ltb-true n 1000000000 e in (omega (arith, ints), omega (arith, ints, lt))
is-not-negative (negsuc n) e = absurd cc

-- the layout of a definition has its interval
normal-by : (d : Definition) (layout : Layout) (b : Bool) → IsTrue (is_interval d.interval)
    → cond b (Err no_layout) (Ok (record { record_len = all_record_bytes d.fields; event = is_event d.interval; interval = d.interval })) ≡ Ok layout → IsNormal layout.interval
normal-by d layout true is e = absurd cc
normal-by d layout false is e =
    let normal = is-not-negative d.interval.nano (and_parts (is_second d.interval.sec) (is_nano d.interval.nano) is).1 in
    let same : record { record_len = all_record_bytes d.fields; event = is_event d.interval; interval = d.interval } ≡ layout = cc in
    subst (λ (l : Layout). IsNormal l.interval) same normal

short-by : (d : Definition) (layout : Layout) (b : Bool) → all_record_bytes d.fields ≤ record_bytes_max
    → cond b (Err no_layout) (Ok (record { record_len = all_record_bytes d.fields; event = is_event d.interval; interval = d.interval })) ≡ Ok layout → layout.record_len ≤ record_bytes_max
short-by d layout true le e = absurd cc
short-by d layout false le e =
    let same : record { record_len = all_record_bytes d.fields; event = is_event d.interval; interval = d.interval } ≡ layout = cc in
    subst (λ (l : Layout). l.record_len ≤ record_bytes_max) same le

pub stand-for-empty : (ds : List Definition) (kept : List KeptTable) → AllByRecursion IsTable ds → AreMade (map view_of ds) kept → TablesStandFor kept (map empty_of kept)
stand-for-empty [] [] each made = tt
stand-for-empty [] (k ∷ kept) each made = absurd made
stand-for-empty (d ∷ ds) [] each made = absurd made
stand-for-empty (d ∷ ds) (k ∷ kept) each made = (
  record {
    signature = refl;
    layout = refl;
    record_len = made.0.record_len;
    capacity = refl;
    interval = normal-by d k.layout (has_asciiz d.fields) each.0.formed.interval.1 made.0.layout;
    short = short-by d k.layout (has_asciiz d.fields) each.0.within.record_bytes made.0.layout;
    stored = made.0.empty;
  },
  stand-for-empty ds kept each.1 made.1,
)

-- A record that is stored in one of the tables.
use Rattle.std.proofs.Common.{◌≡◌, ℕ, zero, suc, ◌-◌, List, [], ◌∷◌, ◌++◌, get_or, set, slice_get, Option, Some, Result, Ok, Err, refl, sym, ap, subst, ◌∙◌, arith}
use Rattle.pb_base.specs.declared.numbers.RecNo.{RecNo}
use Rattle.pb_base.specs.declared.layout.Layout.{Layout}
use Rattle.pb_base.specs.World.{StoredRecord}
use Rattle.pb_ring.specs.declared.ring.Spent.{Spent}
use Rattle.pb_ring.specs.Ring as ring
use Rattle.pb_ring.specs.Ring.{Stores}
use Rattle.pb_station.specs.State.{DeviceState, KeptTable, KeptStation, Table, State, TableStandsFor, TablesStandFor, StandsFor}
use Rattle.pb_station.specs.Storing.{HasTable, with_record, TableStores, StationStores}
use Rattle.pb_station.specs.Inside.Steps.{KeepsTable}
use Rattle.pb_station.proofs.TableLemmas.{at-some}

-- ---- one table is another

set-stand : (kept : List KeptTable) (tables : List Table) (n : ℕ) (k : KeptTable) (t : Table) → TablesStandFor kept tables → TableStandsFor k t → TablesStandFor (set kept n k) (set tables n t)
set-stand [] [] n k t all one = tt
set-stand [] (y ∷ tables) n k t all one = absurd all
set-stand (x ∷ kept) [] n k t all one = absurd all
set-stand (x ∷ kept) (y ∷ tables) zero k t all one = (one, all.1)
set-stand (x ∷ kept) (y ∷ tables) (suc n) k t all one = (all.0, set-stand kept tables n k t all.1 one)

set-none : (kept : List KeptTable) (n : ℕ) (k : KeptTable) → slice_get kept n ≡ Some k → set kept n k ≡ kept
set-none [] n k e = refl
set-none (x ∷ kept) zero k e = let same : x ≡ k = cc in ap (λ (y : KeptTable). y ∷ kept) (sym same)
set-none (x ∷ kept) (suc n) k e = ap (λ ys. x ∷ ys) (set-none kept n k e)

get-some : (kept : List KeptTable) (n : ℕ) (k d : KeptTable) → slice_get kept n ≡ Some k → d ≡ get_or kept n d → slice_get kept n ≡ Some d
get-some [] n k d e g = absurd cc
get-some (x ∷ kept) zero k d e g = ap Some (sym g)
get-some (x ∷ kept) (suc n) k d e g = get-some kept n k d e g

same-table : (old new : KeptTable) → KeepsTable old new → new.ring ≡ old.ring → new ≡ old
same-table old new keeps e =
    ap (λ (s : ℕ). record { signature = s; layout = new.layout; ring = new.ring }) keeps.signature
    ∙ ap (λ (l : Layout). record { signature = old.signature; layout = l; ring = new.ring }) keeps.layout
    ∙ ap (λ (r : ring.Kept). record { signature = old.signature; layout = old.layout; ring = r }) e

more-stands : (old new : KeptTable) (t : Table) (r : StoredRecord) → TableStandsFor old t → KeepsTable old new → ring.StandsFor new.ring (t.stored ++ r ∷ []) → TableStandsFor new (with_record r t)
more-stands old new t r stands keeps more = record {
  signature = keeps.signature ∙ stands.signature;
  layout = keeps.layout ∙ stands.layout;
  record_len = keeps.record_len ∙ stands.record_len;
  capacity = keeps.capacity ∙ stands.capacity;
  interval = stands.interval;
  short = stands.short;
  stored = more;
}

-- ---- what the station stands for then

abbrev station : DeviceState → List KeptTable → KeptStation
station device tables = record { device = device; tables = tables }

stores-by : (state : State) (n : ℕ) (device : DeviceState) (kept : List KeptTable) (held new : KeptTable) (t : Table) (r : StoredRecord) (result : Result RecNo Spent)
    → StandsFor (station device kept) state → slice_get kept n ≡ Some held → TableStandsFor held t → KeepsTable held new → Stores t.stored r held.ring new.ring result
    → TableStores state n (Some t) r (station device kept) (station device (set kept n new)) result
stores-by state n device kept held new t r (Ok number) stands here one keeps s =
    (s.0, s.1, record { device = stands.device; tables = set-stand kept state.tables n new (with_record r t) stands.tables (more-stands held new t r one keeps s.2) })
stores-by state n device kept held new t r (Err spent) stands here one keeps s =
    (s.0, ap (station device) (ap (set kept n) (same-table held new keeps s.1) ∙ set-none kept n held here))

pub station-stores : (state : State) (number len i : ℕ) (device : DeviceState) (kept : List KeptTable) (held new : KeptTable) (r : StoredRecord) (result : Result RecNo Spent)
    → StandsFor (station device kept) state → HasTable kept number len → i ≡ number - 1 → held ≡ get_or kept i held → KeepsTable held new
    → ((all : List StoredRecord) → ring.StandsFor held.ring all → Stores all r held.ring new.ring result)
    → StationStores state number r (station device kept) (station device (set kept i new)) result
station-stores state zero len i device kept held new r result stands has ei eh keeps s = absurd has
station-stores state (suc n) len i device kept held new r result stands has ei eh keeps s =
    let at : i ≡ n = omega (arith, ei) in
    let same : held ≡ get_or kept n held = subst (λ (k : ℕ). held ≡ get_or kept k held) at eh in
    let here = get-some kept n has.0 held has.1 same in
    let f = at-some kept state.tables n held stands.tables here in
    subst (λ (k : ℕ). StationStores state (suc n) r (station device kept) (station device (set kept k new)) result) (sym at)
    (subst (λ (o : Option Table). TableStores state n o r (station device kept) (station device (set kept n new)) result) (sym f.is)
    (stores-by state n device kept held new f.table r result stands here f.stands keeps (s f.table.stored f.stands.stored)))

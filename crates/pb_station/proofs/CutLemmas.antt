-- Runs of records, cut into the records again.
use Rattle.std.proofs.Common.{◌≡◌, ℕ, zero, suc, ◌+◌, ◌*◌, ◌≤◌, ◌<◌, pos, w32, Bool, true, false, cond, List, [], ◌∷◌, ◌++◌, length, take, drop, slice_get, Some, Result, Ok, Err, refl, sym, ap, ap₂, subst, ◌∙◌, arith}
use Rattle.std.specs.List.{AllByRecursion, flat_map}
use Rattle.std.specs.Int.RustNames.{FitsSigned}
use Rattle.std.proofs.lemmas.List.{drop-drop}
use Rattle.std.proofs.Math.Seq.{take-append_seam, drop-append-add}
use Rattle.pb_base.specs.declared.nsec.Nsec.{Nsec}
use Rattle.pb_base.specs.declared.layout.Layout.{Layout}
use Rattle.pb_base.specs.declared.fields.FieldFault.{FieldFault}
use Rattle.pb_base.specs.Fields.{Unread}
use Rattle.pb_base.specs.World.{StoredRecord}
use Rattle.pb_base.specs.Time.{time_bytes, time_of, time_later}
use Rattle.pb_base.specs.Record.{content, content_len, record_in, records_from, cut_records}
use Rattle.pb_base.proofs.TextLaws.{time-again}
use Rattle.pb_ring.specs.Ring.{IsRecord}
use Rattle.pb_station.specs.Collect.{run_bytes, field_bytes}
use Rattle.pb_station.proofs.RunLemmas.{content-len}
use Rattle.pb_station.proofs.TimesLemmas.{IsLater}

-- ---- times

abbrev first_of : Result (Nsec × Unread) FieldFault → Nsec
first_of (Ok p) = p.0
first_of (Err fault) = record { sec = pos 0; nano = pos 0 }

pub time-of : (t : Nsec) (rest : List ℕ) → FitsSigned w32 t.sec → FitsSigned w32 t.nano → time_of (time_bytes t ++ rest) ≡ t
time-of t rest fs fn = ap first_of (time-again 0 t [] fs fn)

-- ---- pieces of one length

drop-pieces : (f : StoredRecord → List ℕ) (c k : ℕ) (rs : List StoredRecord) → AllByRecursion (λ r. length (f r) ≡ c) rs → drop (k * c) (flat_map f rs) ≡ flat_map f (drop k rs)
drop-pieces f c zero rs all = let e : 0 * c ≡ 0 = omega arith in rw e refl
drop-pieces f c (suc k) [] all = nil (suc k * c) [] refl
  where
    nil : (n : ℕ) (xs : List ℕ) → xs ≡ [] → drop n xs ≡ []
    nil zero xs e = e
    nil (suc n) [] e = refl
    nil (suc n) (x ∷ xs) e = absurd cc
drop-pieces f c (suc k) (r ∷ rs) all =
    let e : suc k * c ≡ length (f r) + k * c = omega (arith, all.0) in
    rw e (drop-append-add (f r) (flat_map f rs) (k * c)) ∙ drop-pieces f c k rs all.1

here : (rs : List StoredRecord) (k : ℕ) (r : StoredRecord) → slice_get rs k ≡ Some r → drop k rs ≡ r ∷ drop (suc k) rs
here [] k r e = absurd cc
here (q ∷ rs) zero r e = let same : q ≡ r = cc in ap (λ (x : StoredRecord). x ∷ rs) same
here (q ∷ rs) (suc k) r e = here rs k r e

-- the piece of a place, and those behind it
piece-at : (f : StoredRecord → List ℕ) (c k : ℕ) (rs : List StoredRecord) (r : StoredRecord) → AllByRecursion (λ q. length (f q) ≡ c) rs → slice_get rs k ≡ Some r
    → drop (k * c) (flat_map f rs) ≡ f r ++ flat_map f (drop (suc k) rs)
piece-at f c k rs r all e = drop-pieces f c k rs all ∙ ap (flat_map f) (here rs k r e)

each-is : (P Q : StoredRecord → Type 0) → ((r : StoredRecord) → P r → Q r) → (rs : List StoredRecord) → AllByRecursion P rs → AllByRecursion Q rs
each-is P Q f [] all = tt
each-is P Q f (r ∷ rs) all = (f r all.0, each-is P Q f rs all.1)

get-all : (P : StoredRecord → Type 0) (rs : List StoredRecord) (k : ℕ) (r : StoredRecord) → AllByRecursion P rs → slice_get rs k ≡ Some r → P r
get-all P [] k r all e = absurd cc
get-all P (q ∷ rs) zero r all e = let same : q ≡ r = cc in subst P same all.0
get-all P (q ∷ rs) (suc k) r all e = get-all P rs k r all.1 e

take-seam : (n : ℕ) (xs ys : List ℕ) → length xs ≡ n → take n (xs ++ ys) ≡ xs
take-seam n xs ys e = rw (sym e) (take-append_seam xs ys)

-- ---- one record of a run

record-is : (t u : Nsec) (x y : List ℕ) → t ≡ u → x ≡ y → ◌≡◌ {A = StoredRecord} (record { time = t; bytes = x }) (record { time = u; bytes = y })
record-is t u x y e f = ap₂ (λ (v : Nsec) (z : List ℕ). record { time = v; bytes = z }) e f

abbrev in_by : Layout → List ℕ → ℕ → Bool → StoredRecord
in_by layout run k event = record {
  time = cond event (time_of (drop (k * cond event (content_len layout) layout.record_len) run)) (time_later (time_of run) layout.interval k);
  bytes = take layout.record_len (drop (8 + k * cond event (content_len layout) layout.record_len) run);
}

event-at : (layout : Layout) (run : List ℕ) (k : ℕ) (r : StoredRecord) (rest : List ℕ) → layout.event ≡ true → IsRecord layout.record_len r → drop (k * content_len layout) run ≡ content r ++ rest
    → record_in layout run k ≡ r
event-at layout run k r rest e is at =
    ap (in_by layout run k) e
    ∙ record-is _ _ _ _ (ap time_of at ∙ time-of r.time (r.bytes ++ rest) is.1 is.2)
    (ap (take layout.record_len) (behind ∙ ap (drop 8) at) ∙ take-seam layout.record_len r.bytes rest is.0)
  where
    behind : drop (8 + k * content_len layout) run ≡ drop 8 (drop (k * content_len layout) run)
    behind = let e : 8 + k * content_len layout ≡ k * content_len layout + 8 = omega arith in ap (λ (n : ℕ). drop n run) e ∙ sym (drop-drop 8 (k * content_len layout) run)

interval-at : (layout : Layout) (t : Nsec) (fields : List ℕ) (k : ℕ) (r : StoredRecord) (rest : List ℕ) → layout.event ≡ false → FitsSigned w32 t.sec → FitsSigned w32 t.nano → length r.bytes ≡ layout.record_len
    → drop (k * layout.record_len) fields ≡ r.bytes ++ rest → r.time ≡ time_later t layout.interval k → record_in layout (time_bytes t ++ fields) k ≡ r
interval-at layout t fields k r rest e fs fn len at later =
    ap (in_by layout (time_bytes t ++ fields) k) e
    ∙ record-is _ _ _ _ (ap (λ (u : Nsec). time_later u layout.interval k) (time-of t fields fs fn) ∙ sym later)
    (ap (take layout.record_len) (drop-append-add (time_bytes t) fields (k * layout.record_len) ∙ at) ∙ take-seam layout.record_len r.bytes rest len)

-- ---- all records of a run

record Has (rs : List StoredRecord) (k : ℕ) : Type 0 where
  r : StoredRecord
  is : slice_get rs k ≡ Some r

has : (rs : List StoredRecord) (k : ℕ) → k < length rs → Has rs k
has [] k lt = absurd (omega (arith, lt))
has (r ∷ rs) zero lt = record { r = r; is = refl }
has (r ∷ rs) (suc k) lt = let h = has rs k (omega (arith, lt)) in record { r = h.r; is = h.is }

none-left : (rs : List StoredRecord) (k : ℕ) → length rs ≤ k → drop k rs ≡ []
none-left [] zero le = refl
none-left [] (suc k) le = refl
none-left (r ∷ rs) zero le = absurd (omega (arith, le))
none-left (r ∷ rs) (suc k) le = none-left rs k (omega (arith, le))

from-k : (layout : Layout) (run : List ℕ) (rs : List StoredRecord) → ((k : ℕ) (r : StoredRecord) → slice_get rs k ≡ Some r → record_in layout run k ≡ r) → (k n : ℕ) → k + n ≡ length rs
    → records_from layout run k n ≡ drop k rs
from-k layout run rs at k zero e = sym (none-left rs k (omega (arith, e)))
from-k layout run rs at k (suc n) e =
    let h = has rs k (omega (arith, e)) in
    ap₂ (λ (x : StoredRecord) (xs : List StoredRecord). x ∷ xs) (at k h.r h.is) (from-k layout run rs at (suc k) n (omega (arith, e))) ∙ sym (here rs k h.r h.is)

events-cut : (layout : Layout) (rs : List StoredRecord) → layout.event ≡ true → AllByRecursion (IsRecord layout.record_len) rs → cut_records layout (length rs) (flat_map content rs) ≡ rs
events-cut layout rs e all =
    let each = each-is (IsRecord layout.record_len) (λ r. length (content r) ≡ content_len layout) (λ r is. content-len layout.record_len r is.0) rs all in
    from-k layout (flat_map content rs) rs (λ k r g. event-at layout (flat_map content rs) k r (flat_map content (drop (suc k) rs)) e (get-all (IsRecord layout.record_len) rs k r all g) (piece-at content (content_len layout) k rs r each g)) 0 (length rs) (omega arith)

intervals-cut : (layout : Layout) (rs : List StoredRecord) (first : StoredRecord) → layout.event ≡ false → AllByRecursion (IsRecord layout.record_len) rs → IsRecord layout.record_len first
    → ((k : ℕ) (r : StoredRecord) → slice_get rs k ≡ Some r → IsLater first.time layout.interval r.time k)
    → cut_records layout (length rs) (time_bytes first.time ++ flat_map field_bytes rs) ≡ rs
intervals-cut layout rs first e all is later =
    let each = each-is (IsRecord layout.record_len) (λ r. length (field_bytes r) ≡ layout.record_len) (λ r has. has.0) rs all in
    from-k layout (time_bytes first.time ++ flat_map field_bytes rs) rs
    (λ k r g. interval-at layout first.time (flat_map field_bytes rs) k r (flat_map field_bytes (drop (suc k) rs)) e is.1 is.2 (get-all (IsRecord layout.record_len) rs k r all g).0 (piece-at field_bytes layout.record_len k rs r each g) (later k r g).same)
    0 (length rs) (omega arith)

-- what is sent of records is cut into them
pub run-cut : (layout : Layout) (rs : List StoredRecord) → AllByRecursion (IsRecord layout.record_len) rs
    → (layout.event ≡ false → (first : StoredRecord) → slice_get rs 0 ≡ Some first → (k : ℕ) (r : StoredRecord) → slice_get rs k ≡ Some r → IsLater first.time layout.interval r.time k)
    → cut_records layout (length rs) (run_bytes layout rs) ≡ rs
run-cut layout [] all later = refl
run-cut layout (r ∷ rs) all later = by layout.event refl
  where
    by : (b : Bool) → layout.event ≡ b → cut_records layout (length (r ∷ rs)) (run_bytes layout (r ∷ rs)) ≡ r ∷ rs
    by true e = ap (λ (b : Bool). cut_records layout (length (r ∷ rs)) (cond b (flat_map content (r ∷ rs)) (time_bytes r.time ++ flat_map field_bytes (r ∷ rs)))) e ∙ events-cut layout (r ∷ rs) e all
    by false e =
        ap (λ (b : Bool). cut_records layout (length (r ∷ rs)) (cond b (flat_map content (r ∷ rs)) (time_bytes r.time ++ flat_map field_bytes (r ∷ rs)))) e
        ∙ intervals-cut layout (r ∷ rs) r e all all.0 (later e r refl)

-- What is answered for a part of a record.
use Rattle.std.proofs.Common.{◌≡◌, ℕ, zero, suc, ◌+◌, ◌-◌, ◌≤◌, ◌<◌, min, Bool, not, ◌&&◌, eqb, ltb, subst, List, [], ◌∷◌, length, take, drop, slice_get, sym, ap, ap₂, ◌∙◌, length-drop, length-take, arith}
use Rattle.std.specs.List.{AllByRecursion}
use Rattle.std.proofs.lemmas.Bool.{le-ltb, lt-leb}
use Rattle.std.proofs.lemmas.List.{take_min}
use Rattle.pb_base.specs.declared.layout.Layout.{Layout}
use Rattle.pb_base.specs.World.{StoredRecord}
use Rattle.pb_base.specs.Record.{content_len}
use Rattle.pb_bmp5.specs.CollectReply as fragment
use Rattle.pb_ring.specs.Ring.{IsRecord}
use Rattle.pb_station.specs.State.{Table, stage_of}
use Rattle.pb_station.specs.Collect.{Sends, answer_run, room_of, run_bytes, answer_part, content_in, content_at, bytes_max}
use Rattle.pb_station.proofs.RunLemmas.{content-len}

pub content-at-len : (len : ℕ) (all : List StoredRecord) (number : ℕ) → AllByRecursion (IsRecord len) all → number < length all → length (content_in (slice_get all number)) ≡ 8 + len
content-at-len len [] number each lt = absurd (omega (arith, lt))
content-at-len len (r ∷ all) zero each lt = content-len len r each.0.0
content-at-len len (r ∷ all) (suc number) each lt = content-at-len len all number each.1 (omega (arith, lt))

-- the least of the limit and of what is left
part-bytes : (n k : ℕ) (xs : List ℕ) (c len : ℕ) → length xs ≡ c → len ≡ min n (c - k) → take len (drop k xs) ≡ take n (drop k xs)
part-bytes n k xs c len ex el =
    let left : c - k ≡ length (drop k xs) = omega (arith, length-drop k xs, ex) in
    ap (λ (x : ℕ). take x (drop k xs)) (el ∙ ap (min n) left) ∙ take_min n (drop k xs)

part-len : (n k : ℕ) (xs : List ℕ) (c len : ℕ) → length xs ≡ c → len ≡ min n (c - k) → length (take n (drop k xs)) ≡ len
part-len n k xs c len ex el = omega (arith, length-take n (drop k xs), length-drop k xs, ex, el)

pub part-answer : (table : Table) (number offset len : ℕ) (last : Bool) → (stage_of table).oldest ≤ number → number < length table.stored → offset < content_len table.layout
    → AllByRecursion (IsRecord table.layout.record_len) table.stored → len ≡ min bytes_max (content_len table.layout - offset)
    → last ≡ (eqb (number + 1) (length table.stored) && eqb (offset + len) (content_len table.layout))
    → answer_part table number offset ≡ Sends (fragment.part number offset (take len (drop offset (content_at table number))) ∷ []) (not last)
part-answer table number offset len last low high place each el last_is =
    let c = content-at-len table.layout.record_len table.stored number each high in
    let e1 = le-ltb number (stage_of table).oldest low in
    let e2 = lt-leb (length table.stored) number high in
    let e3 = lt-leb (content_len table.layout) offset place in
    let b = part-bytes bytes_max offset (content_at table number) (content_len table.layout) len c el in
    let n = part-len bytes_max offset (content_at table number) (content_len table.layout) len c el in
    rw (e1, e2, e3)
    (ap₂ (λ (x : List ℕ) (m : Bool). Sends (fragment.part number offset x ∷ []) (not m)) (sym b)
    (ap (λ (x : ℕ). eqb (number + 1) (length table.stored) && eqb (offset + x) (content_len table.layout)) n ∙ sym last_is))

-- what is answered for a run of records that have room
pub records-answer : (table : Table) (from to count : ℕ) (layout : Layout) → from < to → layout ≡ table.layout → content_len layout ≤ bytes_max → count ≡ min (room_of layout) (to - from)
    → answer_run table (record { from = from; to = to })
    ≡ Sends (fragment.whole from count (run_bytes layout (take count (drop from table.stored))) ∷ []) (ltb (from + count) to)
records-answer table from to count layout lt same fits ec =
    let e1 = lt-leb to from lt in
    let e2 = le-ltb bytes_max (content_len table.layout) (subst (λ (l : Layout). content_len l ≤ bytes_max) same fits) in
    let e3 : min (to - from) (room_of table.layout) ≡ count = ap (λ (l : Layout). min (to - from) (room_of l)) (sym same) ∙ flip (to - from) (room_of layout) ∙ sym ec in
    rw (e1, e2)
    (ap (λ (n : ℕ). Sends (fragment.whole from n (run_bytes table.layout (take n (drop from table.stored))) ∷ []) (ltb (from + n) to)) e3
    ∙ ap (λ (l : Layout). Sends (fragment.whole from count (run_bytes l (take count (drop from table.stored))) ∷ []) (ltb (from + count) to)) (sym same))
  where
    flip : (a b : ℕ) → min a b ≡ min b a
    flip a b = omega arith

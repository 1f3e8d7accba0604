-- The rows of a table, one after the other.
use Rattle.std.proofs.Common.{◌≡◌, ◌⊎◌, inl, inr, ℕ, zero, suc, ◌+◌, ◌-◌, ◌*◌, ◌<◌, ◌≤◌, min, true, false, List, [], ◌∷◌, length, take, drop, Option, Some, None, refl, sym, ap, subst, ◌∙◌, arith, add-one, length-drop}
use Rattle.std.specs.Prelude.{slice_get}
use Rattle.std.proofs.lemmas.Option.{none-some, same_Some}
use Rattle.std.proofs.lemmas.List.{take_all, length-take-le}
use Rattle.pb_base.specs.declared.layout.Layout.{Layout}
use Rattle.pb_base.specs.Record.{content, stride, record_in}
use Rattle.pb_base.specs.Time.{time_of, HasLater}
use Rattle.pb_record.specs.Cut.{NumberedRecord, seen_record, IsRun}
use Rattle.pb_record.specs.declared.cutting.RecordView.{RecordView}
use Rattle.pb_record.proofs.CutLemmas.{record_fits}
use Rattle.pb_archive.specs.Inside.{IsKnown, IsLast, IsReader, row_of}
use Rattle.pb_archive.specs.Reader.{Reader, Awaits, ReadRow, advance_head_len, content_at}
use Rattle.pb_archive.specs.Rows.{SeenRow, kept, gap, with_missing, rows_from, rows_between, seen_row}
use Rattle.pb_archive.specs.declared.row.Last.{Last}
use Rattle.pb_archive.specs.declared.row.Last.TheVariants as last
use Rattle.pb_archive.specs.declared.row.Row.TheVariants.{Kept}
use Rattle.pb_archive.specs.declared.run.Run.{Run}

-- ---- one row more

abbrev Rows : Type 0
Rows = List (Option (List ℕ))

drop_here : {A : Type 0} (xs : List A) (k : ℕ) (x : A) → slice_get xs k ≡ Some x → drop k xs ≡ x ∷ drop (suc k) xs
drop_here [] k x is = absurd (none-some x is)
drop_here (y ∷ xs) zero x is = ap (λ z. z ∷ xs) (same_Some _ _ is)
drop_here (y ∷ xs) (suc k) x is = drop_here xs k x is

module _ (all : Rows) (to : ℕ) where
  from_here : (n : ℕ) (x : Option (List ℕ)) → n < to → slice_get all n ≡ Some x → take (to - n) (drop n all) ≡ x ∷ take (to - suc n) (drop (suc n) all)
  from_here n x lt is =
      let more : to - n ≡ suc (to - suc n) = omega arith in
      ap (λ l. take (to - n) l) (drop_here all n x is) ∙ ap (λ m. take m (x ∷ drop (suc n) all)) more

  pub kept_next : (n : ℕ) (bytes : List ℕ) → n < to → slice_get all n ≡ Some (Some bytes) → rows_between all n to ≡ kept n bytes ∷ rows_between all (suc n) to
  kept_next n bytes lt is = ap (λ l. rows_from n l) (from_here n (Some bytes) lt is)

  missing_next : (n : ℕ) → n < to → slice_get all n ≡ Some None → rows_between all n to ≡ with_missing n (rows_between all (suc n) to)
  missing_next n lt is = ap (λ l. rows_from n l) (from_here n None lt is)

  -- a gap ends here: at the end of the range, or at a kept record
  abbrev pub EndsGap : ℕ → Type 0
  EndsGap end = (end ≡ to) ⊎ ((bytes : List ℕ) × (end < to) × (slice_get all end ≡ Some (Some bytes)))

  last_missing : (n : ℕ) → EndsGap (suc n) → with_missing n (rows_between all (suc n) to) ≡ gap n (suc n) ∷ rows_between all (suc n) to
  last_missing n (inl end) =
      let none : to - suc n ≡ 0 = omega arith in
      let empty : rows_between all (suc n) to ≡ [] = ap (λ m. rows_from (suc n) (take m (drop (suc n) all))) none in
      ap (with_missing n) empty ∙ ap (λ l. gap n (suc n) ∷ l) (sym empty)
  last_missing n (inr (bytes, lt, is)) =
      let some = kept_next (suc n) bytes lt is in
      ap (with_missing n) some ∙ ap (λ l. gap n (suc n) ∷ l) (sym some)

  gap_from : (m n : ℕ) → n + m < to → ((k : ℕ) → n ≤ k → k < suc (n + m) → slice_get all k ≡ Some None) → EndsGap (suc (n + m))
      → rows_between all n to ≡ gap n (suc (n + m)) ∷ rows_between all (suc (n + m)) to
  gap_from zero n lt none ends =
      let same : n + zero ≡ n = omega arith in
      let here : EndsGap (suc n) = subst (λ i. EndsGap (suc i)) same ends in
      missing_next n (omega arith) (none n (omega arith) (omega arith)) ∙ last_missing n here
      ∙ ap (λ i. gap n (suc i) ∷ rows_between all (suc i) to) (sym same)
  gap_from (suc m) n lt none ends =
      let same : n + suc m ≡ suc n + m = omega arith in
      let here : EndsGap (suc (suc n + m)) = subst (λ i. EndsGap (suc i)) same ends in
      missing_next n (omega arith) (none n (omega arith) (omega arith))
      ∙ ap (with_missing n) (gap_from m (suc n) (omega arith) (λ k le less. none k (omega arith) (omega arith)) here)
      ∙ ap (λ i. gap n (suc i) ∷ rows_between all (suc i) to) (sym same)

  pub gap_next : (n end : ℕ) → n < end → end ≤ to → ((k : ℕ) → n ≤ k → k < end → slice_get all k ≡ Some None) → EndsGap end → rows_between all n to ≡ gap n end ∷ rows_between all end to
  gap_next n end lt le none ends =
      let m = end - suc n in
      let same : suc (n + m) ≡ end = omega arith in
      gap_from m n (omega arith) (λ k low high. none k low (omega arith)) (subst EndsGap (sym same) ends)
      ∙ ap (λ i. gap n i ∷ rows_between all i to) same

-- ---- what a reader awaits

module _ (r : Reader) (file : List ℕ) (rows : List SeenRow) (w : Awaits r file rows) (more : r.next < r.to) (known : IsKnown r) where
  -- from a later number on
  at_next : (row : Option SeenRow) (next : ℕ) → r.next ≤ next → Awaits (record r { row = row; next = next }) file (rows_between w.table.rows next r.to)
  at_next row next above = record {
    rest = w.rest;
    ahead = w.ahead;
    archive = w.archive;
    goes = w.goes;
    table = w.table;
    there = w.there;
    layout = w.layout;
    within = w.within;
    gaps = λ k low high. w.gaps k (omega arith) high;
    kept = w.kept;
    left = refl;
  }

  gap_ends : (end : ℕ) → end ≡ min r.run.first r.to → IsKnown r → EndsGap w.table.rows r.to end
  gap_ends end is (inl past) = inl (omega arith)
  gap_ends end is (inr (some, less)) = elim (ends_at r.run.first r.to end is) [
    | inl at ↦ inl at
    | inr at ↦
        let here : r.run.first + 0 ≡ end = omega (arith, at.0) in
        inr (content_at r.run r.entries.body 0, omega (arith, at.0, at.1), subst (λ i. slice_get w.table.rows i ≡ Some (Some (content_at r.run r.entries.body 0))) here (w.kept 0 some))
  ]
    where
      ends_at : (a b e : ℕ) → e ≡ min a b → (e ≡ b) ⊎ ((e ≡ a) × (a < b))
      ends_at a b e is = grind arith

  pub gap_taken : (end : ℕ) → r.next < r.run.first → end ≡ min r.run.first r.to → ReadRow (record r { row = Some (gap r.next end); next = end }) file rows true
  gap_taken end below is = (
    gap r.next end,
    rows_between w.table.rows end r.to,
    w.left ∙ gap_next w.table.rows r.to r.next end (omega arith) (omega arith) (λ k low high. w.gaps k low (omega arith)) (gap_ends end is known),
    refl,
    at_next _ end (omega arith),
  )

  pub kept_taken : r.run.first ≤ r.next → (let k = r.next - r.run.first in ReadRow (record r { row = Some (kept (r.run.first + k) (content_at r.run r.entries.body k)); next = r.next + 1 }) file rows true)
  kept_taken above =
      let k = r.next - r.run.first in
      let bytes = content_at r.run r.entries.body k in
      let here : r.run.first + k ≡ r.next = omega arith in
      let less : k < r.run.count = in_run known in
      let is : slice_get w.table.rows r.next ≡ Some (Some bytes) = subst (λ i. slice_get w.table.rows i ≡ Some (Some bytes)) here (w.kept k less) in (
        kept (r.run.first + k) bytes,
        rows_between w.table.rows (r.next + 1) r.to,
        w.left ∙ kept_next w.table.rows r.to r.next bytes more is
            ∙ ap (λ i. kept i bytes ∷ rows_between w.table.rows (suc r.next) r.to) (sym here)
            ∙ ap (λ i. kept (r.run.first + k) bytes ∷ rows_between w.table.rows i r.to) (sym (add-one r.next)),
        refl,
        at_next _ (r.next + 1) (omega arith),
      )
    where
      in_run : IsKnown r → r.next - r.run.first < r.run.count
      in_run (inl past) = absurd (omega arith)
      in_run (inr (some, less)) = omega arith

-- ---- the record that was read last

-- the bytes from a place on are all that is left
pub all_from : (n : ℕ) (bytes : List ℕ) → take (length bytes - n) (drop n bytes) ≡ drop n bytes
all_from n bytes = take_all (length bytes - n) (drop n bytes) (omega (arith, length-drop n bytes))

module _ (found : Last) (layout : Layout) (k next to : ℕ) (run : Run) (body : List ℕ) (is : found ≡ last.Kept k) (reader : IsReader found layout next to run body) where
  here : k < run.count
  here = subst (λ l. IsLast l run) is reader.here

  run_there : IsRun run.layout run.first run.count (drop advance_head_len body)
  run_there = reader.cut (omega (arith, here))

  pub last_fits : (bytes : List ℕ) → bytes ≡ drop advance_head_len body → 8 + k * stride run.layout + run.layout.record_len ≤ length bytes
  last_fits bytes same = rw (same, run_there.len) (record_fits run.layout k run.count here)

  pub last_timed : (bytes : List ℕ) → bytes ≡ drop advance_head_len body → run.layout.event ≡ false → HasLater (time_of bytes) run.layout.interval k
  last_timed bytes same interval = rw same (run_there.times interval k here)

  pub last_row : (bytes : List ℕ) (number : ℕ) (view : RecordView) → bytes ≡ drop advance_head_len body → number ≡ run.first + k → seen_record view ≡ record { number = number; stored = record_in run.layout bytes k }
      → row_of found run body ≡ Some (seen_row (Kept view))
  last_row bytes number view same at seen =
      ap (λ l. row_of l run body) is
      ∙ ap (λ l. Some (kept (run.first + k) (content (record_in run.layout l k)))) (sym same)
      ∙ ap (λ n. Some (kept n (content (record_in run.layout bytes k)))) (sym at)
      ∙ ap (λ (s : NumberedRecord). Some (kept s.number (content s.stored))) (sym seen)

  pub last_len : (bytes : List ℕ) (number : ℕ) (view : RecordView) → bytes ≡ drop advance_head_len body → seen_record view ≡ record { number = number; stored = record_in run.layout bytes k } → length view.bytes.now ≡ layout.record_len
  last_len bytes number view same seen =
      let room = last_fits bytes same in
      ap (λ (s : NumberedRecord). length s.stored.bytes) seen
      ∙ length-take-le run.layout.record_len (drop (8 + k * stride run.layout) bytes) (omega (arith, room, length-drop (8 + k * stride run.layout) bytes)) ∙ reader.same_len

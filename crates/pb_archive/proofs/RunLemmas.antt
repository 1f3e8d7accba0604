-- The records of an advance, as they are in its entry.
use Rattle.std.proofs.Common.{◌≡◌, inl, inr, ℕ, zero, suc, ◌+◌, ◌*◌, ◌≤◌, Bool, true, false, List, ◌∷◌, ◌++◌, length, map, take, drop, nat_eq, refl, sym, ap, subst, ◌∙◌, arith, length-drop}
use Rattle.std.specs.Prelude.{if◌then◌else◌}
use Rattle.std.proofs.lemmas.List.{take-take, drop-take, drop-drop, take-append-drop, length-take-le}
use Rattle.pb_base.specs.declared.nsec.Nsec.{Nsec}
use Rattle.pb_base.specs.declared.layout.Layout.{Layout}
use Rattle.pb_base.specs.Fields.{IsBytes}
use Rattle.pb_base.specs.Record.{content, content_len, run_len, cut_records, records_from}
use Rattle.pb_base.specs.Time.{time_bytes, time_of}
use Rattle.pb_base.proofs.FieldLaws.{IsBytes-take, IsBytes-drop}
use Rattle.pb_base.proofs.ReadTimeLemmas.{time_of-first}
use Rattle.pb_base.proofs.TextLaws.{time_there}
use Rattle.pb_record.specs.Cut.{IsRun}
use Rattle.pb_archive.specs.Entry.{Advance, pieces, IsWhole, IsTimed, HasForm, records_max}
use Rattle.pb_archive.specs.Inside.{IsRunOf}

-- ---- contents of a run with a time for each record

-- a content's beginning: its time, and then its field bytes
content_there : (bytes : List ℕ) (n : ℕ) → 8 ≤ length bytes → IsBytes bytes → time_bytes (time_of bytes) ++ take n (drop 8 bytes) ≡ take (8 + n) bytes
content_there bytes n long fits =
    ap (λ t. time_bytes t ++ take n (drop 8 bytes)) (sym (time_of-first bytes))
    ∙ ap (λ l. l ++ take n (drop 8 bytes)) (time_there (take 8 bytes) (length-take-le 8 bytes long) (IsBytes-take 8 bytes fits))
    ∙ take_two 8 n bytes
  where
    take_two : (m n : ℕ) (xs : List ℕ) → take m xs ++ take n (drop m xs) ≡ take (m + n) xs
    take_two m n xs =
        ap (λ l. l ++ take n (drop m xs)) (sym (take-take m (m + n) xs (omega arith)))
        ∙ ap (λ l. take m (take (m + n) xs) ++ l) (sym (drop-take m n xs)) ∙ take-append-drop m (take (m + n) xs)

abbrev events : ℕ → Nsec → Layout
events size interval = record { record_len = size; event = true; interval = interval }

-- contents that follow one another
pub pieces_are : (size : ℕ) (interval : Nsec) (run : List ℕ) (k n : ℕ) → (k + n) * (8 + size) ≤ length run → IsBytes run
    → pieces (8 + size) n (drop (k * (8 + size)) run) ≡ map content (records_from (events size interval) run k n)
pieces_are size interval run k zero long fits = refl
pieces_are size interval run k (suc n) long fits =
    let s = 8 + size in
    let here = drop (k * s) run in
    let fills = times k n s in
    let some : 8 ≤ length here = omega (arith, long, fills, length-drop (k * s) run) in
    let head : take s here ≡ time_bytes (time_of here) ++ take size (drop (8 + k * s) run) =
    sym (content_there here size some (IsBytes-drop (k * s) run fits))
    ∙ ap (λ l. time_bytes (time_of here) ++ take size l) (drop-drop 8 (k * s) run ∙ ap (λ i. drop i run) (omega arith)) in
    let rest : drop s here ≡ drop (suc k * s) run = drop-drop s (k * s) run ∙ ap (λ i. drop i run) (once_more k s) in
    ap (λ c. c ∷ pieces s n (drop s here)) head
    ∙ ap (λ l. (time_bytes (time_of here) ++ take size (drop (8 + k * s) run)) ∷ l)
    (ap (λ l. pieces s n l) rest ∙ pieces_are size interval run (suc k) n (subst (λ i. i * s ≤ length run) (omega arith) long) fits)
  where
    once_more : (k s : ℕ) → k * s + s ≡ suc k * s
    once_more k s = grind arith

    times : (k n s : ℕ) → k * s + s ≤ (k + suc n) * s
    times k n s = let e : (k + suc n) * s ≡ k * s + (n * s + s) = grind arith in omega (arith, e)

-- ---- the run of an advance

-- cut as events, or as the table's records
abbrev cut_as : Layout → Bool → Layout
cut_as layout event = record { record_len = layout.record_len; event = event; interval = layout.interval }

events_len : (layout : Layout) (count : ℕ) → count * content_len layout ≡ run_len (cut_as layout true) count
events_len layout zero = omega arith
events_len layout (suc n) = refl

module _ (layout : Layout) (a : Advance) where
  abbrev Cuts : Bool → Type 0
  Cuts b = IsRun (cut_as layout b) a.first a.count a.bytes
      × ((if b then pieces (content_len layout) a.count a.bytes else map content (cut_records layout a.count a.bytes)) ≡ map content (cut_records (cut_as layout b) a.count a.bytes))

  whole_cuts : IsBytes a.bytes → a.first + a.count ≤ records_max → IsWhole layout a → Cuts true
  whole_cuts fits few whole =
      let none : 0 ≡ 0 * content_len layout = grind arith in
      let many : (0 + a.count) * content_len layout ≡ a.count * content_len layout = ap (λ (n : ℕ). n * content_len layout) (omega arith) in (
        record { len = whole.len ∙ events_len layout a.count; numbers = few; times = λ event. absurd (cc event) },
        ap (λ (n : ℕ). pieces (content_len layout) a.count (drop n a.bytes)) none
            ∙ pieces_are layout.record_len layout.interval a.bytes 0 a.count (omega (arith, whole.len, many)) fits,
      )

  timed_cuts : IsTimed layout a → Cuts false
  timed_cuts timed =
      let same : layout ≡ cut_as layout false = (λ j. record { record_len = layout.record_len; event = timed.interval j; interval = layout.interval }) in
      (subst (λ (l : Layout). IsRun l a.first a.count a.bytes) same timed.run, ap (λ (l : Layout). map content (cut_records l a.count a.bytes)) same)

  form_cuts : IsBytes a.bytes → a.first + a.count ≤ records_max → HasForm layout a → Cuts (nat_eq a.form 0)
  form_cuts fits few (inl whole) = subst Cuts (sym (ap (λ (n : ℕ). nat_eq n 0) whole.form)) (whole_cuts fits few whole)
  form_cuts fits few (inr timed) = subst Cuts (sym (ap (λ (n : ℕ). nat_eq n 0) timed.form)) (timed_cuts timed)

  pub run_is : IsBytes a.bytes → a.first + a.count ≤ records_max → HasForm layout a
      → IsRunOf layout a (record { first = a.first; count = a.count; layout = cut_as layout (nat_eq a.form 0) })
  run_is fits few form =
      let cuts = form_cuts fits few form in
      record { first = refl; count = refl; len = refl; cut = cuts.0; same = cuts.1 }

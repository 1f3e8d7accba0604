-- What is still to come of a table's rows, from entry to entry.
use Rattle.std.proofs.Common.{◌≡◌, inl, inr, ℕ, zero, suc, ◌+◌, ◌-◌, ◌<◌, ◌≤◌, List, [], ◌∷◌, ◌++◌, length, map, drop, get_or, Option, Some, None, Ok, refl, sym, ap, subst, ◌∙◌, arith}
use Rattle.std.specs.Prelude.{slice_get, option_map, replicate}
use Rattle.std.proofs.lemmas.Bool.{cases_lt}
use Rattle.std.proofs.lemmas.List.{length-replicate}
use Rattle.std.proofs.lemmas.Option.{none-some, same_Some, slice_get-map}
use Rattle.pb_base.specs.declared.layout.Layout.{Layout}
use Rattle.pb_base.specs.Record.{content, record_in, records_from, cut_records}
use Rattle.pb_journal.specs.Reading.{Reading, IsReading, ReadsAll}
use Rattle.pb_tdf.specs.View.{layout_of}
use Rattle.pb_archive.specs.Archive.{Table, Archive, Extends, ExtendsTable, front, record_layout, changed_at, grown, stopped}
use Rattle.pb_archive.specs.Entry.{Advance, Change, Added, Advanced, Stopped, advance_kind, change_bytes, contents, HasForm, CanAdvance, IsAllowed, new_table, created, archive_after, Leads, IsArchive}
use Rattle.pb_archive.specs.Inside.{IsSpelled, FitsTable, IsElsewhere, IsRunOf, IsRunIn, HasNoRun, IsKnown}
use Rattle.pb_archive.specs.Opened.{Register, Stands, held_of}
use Rattle.pb_archive.specs.Reader.{Reader, Awaits, BeginsAt, GoesTo, advance_head_len, content_at, run_end, front_of}
use Rattle.pb_archive.specs.Rows.{SeenRow}
use Rattle.pb_archive.specs.declared.held.Held.{Held}
use Rattle.pb_archive.specs.declared.run.Run.{Run}
use Rattle.pb_archive.proofs.LeadsLemmas.{IsArchive-push, change_one}
use Rattle.pb_archive.proofs.ListLemmas.{slice_get-append, slice_get-IsFront}
use Rattle.pb_archive.proofs.OpeningLemmas.{archive_kept, rests_entries}
use Rattle.pb_archive.proofs.RegisterLemmas.{at_before, has_layout, front-grown, length-contents, spelled_allowed}
use Rattle.pb_archive.proofs.WritingLemmas.{Extends-refl, Extends-trans, Extends-after}

-- ---- places in lists

module _ {A : Type 0} where
  slice_get-right : (xs ys : List A) (n k : ℕ) → n ≡ length xs + k → slice_get (xs ++ ys) n ≡ slice_get ys k
  slice_get-right [] ys n k is = ap (λ i. slice_get ys i) (omega arith)
  slice_get-right (x ∷ xs) ys zero k is = absurd (omega arith)
  slice_get-right (x ∷ xs) ys (suc n) k is = slice_get-right xs ys n k (omega arith)

  slice_get-replicate : (n k : ℕ) (x : A) → k < n → slice_get (replicate n x) k ≡ Some x
  slice_get-replicate zero k x lt = absurd (omega arith)
  slice_get-replicate (suc n) zero x lt = refl
  slice_get-replicate (suc n) (suc k) x lt = slice_get-replicate n k x (omega arith)

  changed_here : (f : A → A) (xs : List A) (i : ℕ) (x : A) → slice_get xs i ≡ Some x → slice_get (changed_at i f xs) i ≡ Some (f x)
  changed_here f [] i x is = absurd (none-some x is)
  changed_here f (y ∷ xs) zero x is = ap (λ z. Some (f z)) (same_Some _ _ is)
  changed_here f (y ∷ xs) (suc i) x is = changed_here f xs i x is

  changed_elsewhere : (f : A → A) (xs : List A) (i j : ℕ) → (i ≡ j → ⊥) → slice_get (changed_at i f xs) j ≡ slice_get xs j
  changed_elsewhere f [] i j other = refl
  changed_elsewhere f (x ∷ xs) zero zero other = absurd (other refl)
  changed_elsewhere f (x ∷ xs) zero (suc j) other = refl
  changed_elsewhere f (x ∷ xs) (suc i) zero other = refl
  changed_elsewhere f (x ∷ xs) (suc i) (suc j) other = changed_elsewhere f xs i j (λ same. other (ap suc same))

-- ---- fronts

front_stopped : (f : Table → Table) → ((t : Table) → front (f t) ≡ front t) → (xs : List Table) (i j : ℕ) → front_of (slice_get (changed_at i f xs) j) ≡ front_of (slice_get xs j)
front_stopped f same [] i j = refl
front_stopped f same (x ∷ xs) zero zero = same x
front_stopped f same (x ∷ xs) zero (suc j) = refl
front_stopped f same (x ∷ xs) (suc i) zero = refl
front_stopped f same (x ∷ xs) (suc i) (suc j) = front_stopped f same xs i j

front_added : (t : Table) → front t ≡ 0 → (xs : List Table) (j : ℕ) → front_of (slice_get (xs ++ t ∷ []) j) ≡ front_of (slice_get xs j)
front_added t none [] zero = none
front_added t none [] (suc j) = refl
front_added t none (x ∷ xs) zero = refl
front_added t none (x ∷ xs) (suc j) = front_added t none xs j

front_elsewhere : (a : Archive) (change : Change) (id : ℕ) → IsElsewhere id change → front_of (slice_get (archive_after a change).tables id) ≡ front_of (slice_get a.tables id)
front_elsewhere a (Added station number d) id other = front_added (new_table a.plan station number d) refl a.tables id
front_elsewhere a (Advanced k adv) id other = ap front_of (changed_elsewhere _ a.tables k id other)
front_elsewhere a (Stopped k stop) id other = front_stopped (stopped stop) (λ t. refl) a.tables k id

-- ---- rows of an advance

module _ (first : ℕ) (cs : List (List ℕ)) (t : Table) (le : length t.rows ≤ first) where
  abbrev missing : List (Option (List ℕ))
  missing = replicate (first - length t.rows) None

  gap_in : (k : ℕ) → length t.rows ≤ k → k < first → slice_get (grown first cs t).rows k ≡ Some None
  gap_in k low high =
      slice_get-right t.rows (missing ++ map Some cs) k (k - length t.rows) (omega arith)
      ∙ slice_get-append missing (map Some cs) (k - length t.rows) None (slice_get-replicate (first - length t.rows) (k - length t.rows) None (omega arith))

  kept_in : (k : ℕ) (bytes : List ℕ) → slice_get cs k ≡ Some bytes → slice_get (grown first cs t).rows (first + k) ≡ Some (Some bytes)
  kept_in k bytes is =
      slice_get-right t.rows (missing ++ map Some cs) (first + k) ((first - length t.rows) + k) (omega arith)
      ∙ slice_get-right missing (map Some cs) ((first - length t.rows) + k) k (omega (arith, length-replicate {A = Option (List ℕ)} (first - length t.rows) None))
      ∙ slice_get-map Some cs k ∙ ap (option_map Some) is

record_at : (layout : Layout) (run : List ℕ) (i n k : ℕ) → k < n → slice_get (records_from layout run i n) k ≡ Some (record_in layout run (i + k))
record_at layout run i zero k lt = absurd (omega arith)
record_at layout run i (suc n) zero lt = ap (λ j. Some (record_in layout run j)) (omega arith)
record_at layout run i (suc n) (suc k) lt = record_at layout run (suc i) n k (omega arith) ∙ ap (λ j. Some (record_in layout run j)) (omega arith)

content_in : (layout : Layout) (a : Advance) (run : Run) (k : ℕ) → IsRunOf layout a run → k < a.count → slice_get (contents layout a) k ≡ Some (content (record_in run.layout a.bytes k))
content_in layout a run k is lt =
    ap (λ l. slice_get l k) is.same ∙ slice_get-map content (cut_records run.layout a.count a.bytes) k
    ∙ ap (option_map content) (record_at run.layout a.bytes 0 a.count k lt ∙ ap (λ j. Some (record_in run.layout a.bytes j)) (omega arith))

-- ---- entries that are still to come

Leads-extends : (a b : Archive) (bodies : List (List ℕ)) → Leads a bodies b → Extends a b
Leads-extends a b [] leads = subst (Extends a) (sym leads) (Extends-refl a)
Leads-extends a b (body ∷ bodies) leads =
    Extends-trans a (archive_after a leads.0) b (Extends-after a leads.0 leads.2) (Leads-extends (archive_after a leads.0) b bodies leads.3)

spelled_next : (done : List (List ℕ)) (a : Archive) (change : Change) → IsArchive done a → IsAllowed a change → IsSpelled change
spelled_next done a change is allowed = let kept = archive_kept a done is in spelled_allowed a kept.0 kept.1 change allowed

module _ (id number : ℕ) (body : List ℕ) (rest : List (List ℕ)) (a : Archive) where
  goes_elsewhere : GoesTo id number (body ∷ rest) a → HasNoRun id body → GoesTo id number rest a
  goes_elsewhere (inl (is, none)) other = inr (record { done = body ∷ []; so_far = created is.0; entries = (is.0, is.1, is.2, refl); leads = is.3; reached = sym none })
  goes_elsewhere (inr amid) other =
      let change = amid.leads.0 in
      let spelled = spelled_next amid.done amid.so_far change amid.entries amid.leads.2 in
      inr (record {
        done = amid.done ++ body ∷ [];
        so_far = archive_after amid.so_far change;
        entries = IsArchive-push amid.so_far amid.done body change amid.entries amid.leads.1 amid.leads.2;
        leads = amid.leads.3;
        reached = front_elsewhere amid.so_far change id (other change spelled amid.leads.1) ∙ amid.reached;
      })

  -- the advance is the next change
  record Advances (adv : Advance) : Type 0 where
    done : List (List ℕ)
    so_far : Archive
    entries : IsArchive done so_far
    reached : front_of (slice_get so_far.tables id) ≡ number
    bytes : body ≡ change_bytes (Advanced id adv)
    allowed : IsAllowed so_far (Advanced id adv)
    leads : Leads (archive_after so_far (Advanced id adv)) rest a

  advances : (layout : Layout) (run : Run) (is : IsRunIn id layout body run) → GoesTo id number (body ∷ rest) a → Advances is.advance
  advances layout run is (inl (plan, none)) = absurd (omega (arith, ap (λ l. get_or l 0 0) (sym plan.1 ∙ is.bytes)))
  advances layout run is (inr amid) =
      let change = amid.leads.0 in
      let spelled = spelled_next amid.done amid.so_far change amid.entries amid.leads.2 in
      let same : change ≡ Advanced id is.advance = change_one change (Advanced id is.advance) spelled is.spelled (sym amid.leads.1 ∙ is.bytes) in
      record {
        done = amid.done;
        so_far = amid.so_far;
        entries = amid.entries;
        reached = amid.reached;
        bytes = is.bytes;
        allowed = subst (λ x. IsAllowed amid.so_far x) same amid.leads.2;
        leads = subst (λ x. Leads (archive_after amid.so_far x) rest a) same amid.leads.3;
      }

-- ---- what a reader awaits, where it isn't known what comes next

module _ (r : Reader) (file : List ℕ) (rows : List SeenRow) (w : Awaits r file rows) (more : r.next < r.to) (unknown : IsKnown r → ⊥) where
  -- no record of the run is left
  used_up : (k : ℕ) → r.next ≤ k → k < run_end r.run → slice_get w.table.rows k ≡ Some None
  used_up k low high = elim (cases_lt k r.run.first) [
    | inl below ↦ w.gaps k low below
    | inr above ↦ absurd (unknown (inr (omega arith, omega arith)))
  ]

  none_left : (rest : List (List ℕ)) → rest ≡ [] → GoesTo r.id (run_end r.run) rest w.archive → ⊥
  none_left (body ∷ rest) none goes = absurd (cc none)
  none_left [] none (inl (is, zero_front)) = is
  none_left [] none (inr amid) =
      let reached : front w.table ≡ run_end r.run = ap front_of (sym w.there) ∙ ap (λ x. front_of (slice_get x.tables r.id)) amid.leads ∙ amid.reached in
      elim (cases_lt r.run.first r.to) [
        | inl below ↦ unknown (inr (omega (arith, reached, w.within), omega (arith, reached, w.within)))
        | inr above ↦ unknown (inl above)
      ]

  pub entries_left : w.rest ≡ [] → ⊥
  entries_left none = none_left w.rest none w.goes

  -- an entry was passed, or none
  passed : (e : Reading) (run : Run) (row : Option SeenRow) (rest : List (List ℕ)) → run.first ≡ run_end r.run → run.count ≡ 0 → IsReading e r.gate file rest → GoesTo r.id (run_end r.run) rest w.archive
      → Awaits (record r { row = row; run = run; entries = e }) file rows
  passed e run row rest first none ahead goes = record {
    rest = rest;
    ahead = ahead;
    archive = w.archive;
    goes = subst (λ n. GoesTo r.id n rest w.archive) (omega arith) goes;
    table = w.table;
    there = w.there;
    layout = w.layout;
    within = w.within;
    gaps = λ k low high. used_up k low (omega arith);
    kept = λ k lt. absurd (omega arith);
    left = w.left;
  }

  pub still_there : (e : Reading) (run : Run) (row : Option SeenRow) → run.first ≡ run_end r.run → run.count ≡ 0 → IsReading e r.gate file w.rest → Awaits (record r { row = row; run = run; entries = e }) file rows
  still_there e run row first none ahead = passed e run row w.rest first none ahead w.goes

  module _ (e : Reading) (rest : List (List ℕ)) (ahead : IsReading e r.gate file rest) (bodies : w.rest ≡ e.body ∷ rest) where
    next_goes : GoesTo r.id (run_end r.run) (e.body ∷ rest) w.archive
    next_goes = subst (λ l. GoesTo r.id (run_end r.run) l w.archive) bodies w.goes

    pub elsewhere : (run : Run) (row : Option SeenRow) → run.first ≡ run_end r.run → run.count ≡ 0 → HasNoRun r.id e.body → Awaits (record r { row = row; run = run; entries = e }) file rows
    elsewhere run row first none other = passed e run row rest first none ahead (goes_elsewhere r.id (run_end r.run) e.body rest w.archive next_goes other)

    -- the table goes on from one that there was so far
    same_table : (so_far : Archive) (bodies : List (List ℕ)) (t : Table) → Leads so_far bodies w.archive → slice_get so_far.tables r.id ≡ Some t → ExtendsTable t w.table
    same_table so_far bodies t leads is =
        let there = (Leads-extends so_far w.archive bodies leads).tables r.id t is in
        subst (ExtendsTable t) (same_Some _ _ (sym there.1 ∙ w.there)) there.2

    pub taken_up : (run : Run) (row : Option SeenRow) → IsRunIn r.id r.layout e.body run → Awaits (record r { row = row; run = run; entries = e }) file rows
    taken_up run row is =
        let adv = is.advance in
        let x = advances r.id (run_end r.run) e.body rest w.archive r.layout run is next_goes in
        let t = x.allowed.0 in
        let can : CanAdvance t adv = x.allowed.2 in
        let cs = contents (record_layout t.definition) adv in
        let next : Table = grown adv.first cs t in
        let here : slice_get (archive_after x.so_far (Advanced r.id adv)).tables r.id ≡ Some next = changed_here _ x.so_far.tables r.id t x.allowed.1.there in
        let goes_on : ExtendsTable next w.table = same_table (archive_after x.so_far (Advanced r.id adv)) rest next x.leads here in
        let reached : front t ≡ run_end r.run = ap front_of (sym x.allowed.1.there) ∙ x.reached in
        let layout : record_layout t.definition ≡ r.layout = ap record_layout (sym goes_on.definition) ∙ sym w.layout in
        let grows : front next ≡ run_end run =
        front-grown adv.first cs t can.first ∙ ap (λ n. adv.first + n) (length-contents (record_layout t.definition) adv) ∙ omega (arith, is.is.first, is.is.count) in
        record {
          rest = rest;
          ahead = ahead;
          archive = w.archive;
          goes = inr (record {
            done = x.done ++ e.body ∷ [];
            so_far = archive_after x.so_far (Advanced r.id adv);
            entries = IsArchive-push x.so_far x.done e.body (Advanced r.id adv) x.entries x.bytes x.allowed;
            leads = x.leads;
            reached = ap front_of here ∙ grows;
          });
          table = w.table;
          there = w.there;
          layout = w.layout;
          within = w.within;
          gaps = λ k low high. elim (cases_lt k (run_end r.run)) [
            | inl below ↦ used_up k low below
            | inr above ↦ slice_get-IsFront next.rows w.table.rows k None goes_on.rows (gap_in adv.first cs t can.first k (omega arith) (omega (arith, is.is.first)))
          ];
          kept = λ k lt.
              let bytes = content_at run e.body k in
              let at_bytes : content (record_in run.layout adv.bytes k) ≡ bytes = ap (λ l. content (record_in run.layout (drop advance_head_len l) k)) (sym x.bytes) in
              let in_entry : slice_get cs k ≡ Some bytes =
              ap (λ l. slice_get (contents l adv) k) layout ∙ content_in r.layout adv run k is.is (omega (arith, is.is.count)) ∙ ap Some at_bytes in
              subst (λ n. slice_get w.table.rows (n + k) ≡ Some (Some bytes)) (sym is.is.first)
              (slice_get-IsFront next.rows w.table.rows (adv.first + k) (Some bytes) goes_on.rows (kept_in adv.first cs t can.first k bytes in_entry));
          left = w.left;
        }

    fits_here : (change : Change) (done : List (List ℕ)) (so_far : Archive) → IsArchive done so_far → IsAllowed so_far change → Leads so_far (e.body ∷ rest) w.archive → FitsTable r.id r.layout change
    fits_here (Added station number d) done so_far is allowed leads = tt
    fits_here (Advanced k adv) done so_far is allowed leads = λ same.
        let t = allowed.0 in
        let can : CanAdvance t adv = allowed.2 in
        let there : slice_get so_far.tables r.id ≡ Some t = ap (λ n. slice_get so_far.tables n) (sym same) ∙ allowed.1.there in
        let layout : record_layout t.definition ≡ r.layout = ap record_layout (sym (same_table so_far (e.body ∷ rest) t leads there).definition) ∙ sym w.layout in
        (subst (λ l. HasForm l adv) layout can.form, can.numbers)
    fits_here (Stopped k stop) done so_far is allowed leads = tt

    -- an entry of the archive is never wrong
    pub never_wrong : get_or e.body 0 0 ≡ advance_kind → ((change : Change) → IsSpelled change → e.body ≡ change_bytes change → FitsTable r.id r.layout change → ⊥) → ⊥
    never_wrong kind wrong = by next_goes
      where
        by : GoesTo r.id (run_end r.run) (e.body ∷ rest) w.archive → ⊥
        by (inl (plan, none)) = absurd (omega (arith, ap (λ l. get_or l 0 0) plan.1, kind))
        by (inr amid) =
            let change = amid.leads.0 in
            wrong change (spelled_next amid.done amid.so_far change amid.entries amid.leads.2) amid.leads.1
            (fits_here change amid.done amid.so_far amid.entries amid.leads.2 amid.leads)

-- ---- what is known of no file

pub none_known : {A : Type 0} (view : Option A) → ((x : A) → view ≡ Some x → ⊥) → view ≡ None
none_known None none = refl
none_known (Some x) none = absurd (none x refl)

-- ---- what was read last isn't awaited

pub with_row : (r : Reader) (file : List ℕ) (rows : List SeenRow) (row : Option SeenRow) → Awaits r file rows → Awaits (record r { row = row }) file rows
with_row r file rows row w = record {
  rest = w.rest;
  ahead = w.ahead;
  archive = w.archive;
  goes = w.goes;
  table = w.table;
  there = w.there;
  layout = w.layout;
  within = w.within;
  gaps = w.gaps;
  kept = w.kept;
  left = w.left;
}

-- ---- the first entry

module _ (register : Register) (gate : ℕ) (file : List ℕ) (stands : Stands register gate file) where
  pub begins_at : (id from to : ℕ) (held : Held) (layout : Layout) (e : Reading) (run : Run) → slice_get register.tables id ≡ Some held → to ≤ held.front → held.table.layout ≡ Ok layout → ReadsAll e
      → run_end run ≡ 0 → BeginsAt (record { row = None; next = from; to = to; id = id; layout = layout; gate = gate; run = run; entries = e }) id from to file
  begins_at id from to held layout e run is low has all none =
      let t = at_before held_of stands.archive.tables id held (ap (λ (r : Register). slice_get r.tables id) (sym stands.same) ∙ is) in
      let cut : layout_of t.0.definition ≡ Ok layout = ap (λ (h : Held). h.table.layout) (sym t.2) ∙ has in (
        stands.archive,
        t.0,
        record { bodies = stands.bodies; entries = rests_entries gate stands.bodies file stands.rests; archive = stands.entries },
        t.1,
        record {
          rest = stands.bodies;
          ahead = all gate file stands.bodies stands.rests;
          archive = stands.archive;
          goes = inl (stands.entries, none);
          table = t.0;
          there = t.1;
          layout = (has_layout t.0.definition layout cut).1;
          within = omega (arith, low, ap (λ (h : Held). h.front) t.2);
          gaps = λ k above below. absurd (omega (arith, none));
          kept = λ k lt. absurd (omega (arith, none));
          left = refl;
        },
      )

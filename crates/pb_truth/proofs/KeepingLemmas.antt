-- What the advances for a fragment make of a table.
use Rattle.std.proofs.Common.{◌≡◌, ℕ, zero, suc, ◌+◌, ◌-◌, ◌*◌, ◌≤◌, Bool, true, false, List, [], ◌∷◌, ◌++◌, length, map, drop, Option, Some, None, refl, sym, ◌∙◌, ap, subst, arith, append_assoc, append-nil}
use Rattle.std.specs.Int.{w16, w32, to_be_bytes}
use Rattle.std.specs.Prelude.{nat_lt, ◌==◌, if◌then◌else◌, replicate}
use Rattle.std.proofs.lemmas.List.{take_all, take_at, drop_at}
use Rattle.std.proofs.lemmas.Bool.{eqb-true, ltb-false}
use Rattle.pb_base.specs.declared.nsec.Nsec.{Nsec}
use Rattle.pb_base.specs.declared.layout.Layout.{Layout}
use Rattle.pb_base.specs.Fields.{IsBytes}
use Rattle.pb_base.specs.History.{History, IsFront}
use Rattle.pb_archive.specs.Truth.{SoundTable}
use Rattle.pb_base.specs.Record.{content, content_len, run_len, cut_records}
use Rattle.pb_base.proofs.FieldLaws.{IsBytes-take, IsBytes-drop}
use Rattle.pb_bmp5.specs.CollectReply.{SeenFragment, whole, part, SeenReply, fragment_bytes, rest_of, Begins, AreFragments, CollectReads}
use Rattle.pb_archive.specs.Archive.{Table, front, grown}
use Rattle.pb_archive.specs.Entry.{Advance, pieces, contents}
use Rattle.pb_archive.proofs.RunLemmas.{pieces_are}
use Rattle.pb_truth.specs.Learning.{Known, without_partial, BeginsFrom, BeginsWithPart, FitsNext, FitsKnown, taken, learned}
use Rattle.pb_truth.specs.Keeping.{run_advance, gap_advance, content_advance, advances, table_after, CanBeKept, CanAllBeKept}
use Rattle.pb_truth.proofs.LearningLemmas.{front-grown, length-run, part_is_last, fragments_in, IsFront-refl, IsFront-trans, learned_adds}
use Rattle.pb_truth.proofs.TableLemmas.{sound_front}

-- ---- contents of a run with a time for each record

-- a run's contents, as they came
run_kept : (size : ℕ) (event : Bool) (interval : Nsec) (first count : ℕ) (bytes : List ℕ) → IsBytes bytes
    → length bytes ≡ run_len (record { record_len = size; event = event; interval = interval }) count
    → contents (record { record_len = size; event = event; interval = interval }) (run_advance (record { record_len = size; event = event; interval = interval }) first count bytes)
    ≡ map content (cut_records (record { record_len = size; event = event; interval = interval }) count bytes)
run_kept size false interval first count bytes fits len = refl
run_kept size true interval first zero bytes fits len = refl
run_kept size true interval first (suc n) bytes fits len =
    let none : 0 ≡ 0 * (8 + size) = grind arith in
    let many : (0 + suc n) * (8 + size) ≡ suc n * (8 + size) = ap (λ i. i * (8 + size)) (omega arith) in
    ap (λ i. pieces (8 + size) (suc n) (drop i bytes)) none ∙ pieces_are size interval bytes 0 (suc n) (omega (arith, len, many)) fits

-- ---- tables

grown_here : (t : Table) (number : ℕ) → front t ≡ number → grown number [] t ≡ t
grown_here t number here =
    let none : number - length t.rows ≡ 0 = omega (arith, here) in
    ap (λ rows. record t { rows = rows }) (ap (λ d. t.rows ++ (replicate d None ++ [])) none ∙ append-nil t.rows)

grown_twice : (t : Table) (number : ℕ) (cs : List (List ℕ)) → front t ≤ number → grown number cs (grown number [] t) ≡ grown number cs t
grown_twice t number cs low =
    let up = front-grown number [] t low in
    let none : number - length (grown number [] t).rows ≡ 0 = omega (arith, up) in
    let gaps = replicate (number - length t.rows) None in
    ap (λ rows. record t { rows = rows })
    (ap (λ d. (t.rows ++ (gaps ++ [])) ++ (replicate d None ++ map Some cs)) none
    ∙ ap (λ l. (t.rows ++ l) ++ map Some cs) (append-nil gaps) ∙ append_assoc t.rows gaps (map Some cs))

abbrev table_of : Known → Table
table_of k = k.table

part_kept : (layout : Layout) (k : Known) (number offset : ℕ) (bytes : List ℕ) → front k.table ≤ number
    → table_after layout k.table (advances layout k (part number offset bytes)) ≡ (taken layout k (part number offset bytes)).table
part_kept layout k number offset bytes low =
    cases (nat_lt (front k.table) number) (length (k.partial ++ bytes) == content_len layout) (λ e. ltb-false (front k.table) number e) (λ e. eqb-true (length (k.partial ++ bytes)) (content_len layout) e)
  where
    cases : (above is_whole : Bool) → (above ≡ false → number ≤ front k.table) → (is_whole ≡ true → length (k.partial ++ bytes) ≡ content_len layout)
        → table_after layout k.table ((if above then gap_advance number ∷ [] else []) ++ (if is_whole then content_advance number (k.partial ++ bytes) ∷ [] else []))
        ≡ table_of (if is_whole then without_partial (grown number ((k.partial ++ bytes) ∷ []) k.table) else record { table = grown number [] k.table; partial = k.partial ++ bytes })
    cases true true at len =
        ap (λ c. grown number (c ∷ []) (grown number [] k.table)) (take_all (content_len layout) (k.partial ++ bytes) (omega (arith, len refl)))
        ∙ grown_twice k.table number ((k.partial ++ bytes) ∷ []) low
    cases true false at len = refl
    cases false true at len = ap (λ c. grown number (c ∷ []) k.table) (take_all (content_len layout) (k.partial ++ bytes) (omega (arith, len refl)))
    cases false false at len = sym (grown_here k.table number (omega (arith, low, at refl)))

pub fragment_kept : (layout : Layout) (k : Known) (f : SeenFragment) → CanBeKept layout k.table f → table_after layout k.table (advances layout k f) ≡ (taken layout k f).table
fragment_kept layout k (whole first zero bytes) can = refl
fragment_kept layout k (whole first (suc n) bytes) can =
    ap (λ cs. grown first cs k.table) (run_kept layout.record_len layout.event layout.interval first (suc n) bytes can.2 can.1)
fragment_kept layout k (part number offset bytes) can = part_kept layout k number offset bytes can

pub after_adds : (layout : Layout) (some : List Advance) (t : Table) → IsFront t.rows (table_after layout t some).rows
after_adds layout [] t = IsFront-refl t.rows
after_adds layout (a ∷ rest) t =
    let next = grown a.first (contents layout a) t in
    IsFront-trans t.rows next.rows (table_after layout next rest).rows (_, refl) (after_adds layout rest next)

pub after_further : (layout : Layout) (some more : List Advance) (t : Table) → table_after layout t (some ++ more) ≡ table_after layout (table_after layout t some) more
after_further layout [] more t = refl
after_further layout (a ∷ rest) more t = after_further layout rest more (grown a.first (contents layout a) t)

-- what is true after a fragment and those after it is true after the first of its advances
pub first_true : (layout : Layout) (k : Known) (f : SeenFragment) (fs : List SeenFragment) (some more : List Advance) (h : History) → CanBeKept layout k.table f
    → advances layout k f ≡ some ++ more → SoundTable (learned layout k (f ∷ fs)).table h → SoundTable (table_after layout k.table some) h
first_true layout k f fs some more h can split sound =
    let t = table_after layout k.table some in
    let all : table_after layout t more ≡ (taken layout k f).table = sym (after_further layout some more k.table) ∙ ap (λ l. table_after layout k.table l) (sym split) ∙ fragment_kept layout k f can in
    let front_then = subst (λ (u : Table). IsFront t.rows u.rows) all (after_adds layout more t) in
    sound_front t (learned layout k (f ∷ fs)).table h
    (IsFront-trans t.rows (taken layout k f).table.rows (learned layout k (f ∷ fs)).table.rows front_then (learned_adds layout fs (taken layout k f))) sound

-- ---- the fragments of an answer can be kept

bytes_after : (xs ys : List ℕ) → IsBytes (xs ++ ys) → IsBytes ys
bytes_after xs ys fits = subst IsBytes (drop_at xs ys (length xs) refl) (IsBytes-drop (length xs) (xs ++ ys) fits)

bytes_before : (xs ys : List ℕ) → IsBytes (xs ++ ys) → IsBytes xs
bytes_before xs ys fits = subst IsBytes (take_at xs ys (length xs) refl) (IsBytes-take (length xs) (xs ++ ys) fits)

-- the bytes at which reading goes on
pub rest_bytes : (table : ℕ) (layout : Layout) (before : Option ℕ) (f : SeenFragment) (body rest : List ℕ) → Begins table layout before f body rest → IsBytes body → IsBytes rest
rest_bytes table layout before f body rest b fits = subst IsBytes (sym b.goes) (after f (bytes_after (fragment_bytes table f) b.after (subst IsBytes b.leads.parts fits)))
  where
    after : (g : SeenFragment) → IsBytes b.after → IsBytes (rest_of g b.after)
    after (whole first zero bytes) h = IsBytes-drop (length b.after - 1) b.after h
    after (whole first (suc n) bytes) h = h
    after (part number offset bytes) h = h

pub run_bytes : (table : ℕ) (layout : Layout) (before : Option ℕ) (first n : ℕ) (bytes body rest : List ℕ) → Begins table layout before (whole first n bytes) body rest → IsBytes body → IsBytes bytes
run_bytes table layout before first n bytes body rest b fits =
    bytes_after (to_be_bytes w16 n) bytes (bytes_after (to_be_bytes w32 first) (to_be_bytes w16 n ++ bytes)
    (bytes_after (to_be_bytes w16 table) (to_be_bytes w32 first ++ (to_be_bytes w16 n ++ bytes))
    (bytes_before (fragment_bytes table (whole first n bytes)) b.after (subst IsBytes b.leads.parts fits))))

-- a run at the front or above
run_can : (table : ℕ) (layout : Layout) (before : Option ℕ) (t : Table) (first n : ℕ) (bytes body rest : List ℕ) → front t ≤ first
    → Begins table layout before (whole first (suc n) bytes) body rest → IsBytes body → CanBeKept layout t (whole first (suc n) bytes)
run_can table layout before t first n bytes body rest low b fits = (low, b.leads.its_bytes, run_bytes table layout before first (suc n) bytes body rest b fits)

rest_can : (table : ℕ) (layout : Layout) (fs : List SeenFragment) (t : Table) (last : ℕ) (body : List ℕ) → AreFragments table layout (Some (front t)) fs last body → IsBytes body
    → CanAllBeKept layout (without_partial t) fs
rest_can table layout [] t last body are fits = tt
rest_can table layout (whole first zero bytes ∷ fs) t last body are fits = (
  tt,
  rest_can table layout fs t last are.0 (subst (λ n. AreFragments table layout (Some n) fs last are.0) (omega (arith, are.1.formed.goes_on)) are.2)
      (rest_bytes table layout (Some (front t)) (whole first zero bytes) body are.0 are.1 fits),
)
rest_can table layout (whole first (suc n) bytes ∷ fs) t last body are fits =
    let cs = map content (cut_records layout (suc n) bytes) in
    let on = are.1.formed.goes_on in
    let up = front-grown first cs t (omega (arith, on)) in (
      run_can table layout (Some (front t)) t first n bytes body are.0 (omega (arith, on)) are.1 fits,
      rest_can table layout fs (grown first cs t) last are.0 (subst (λ m. AreFragments table layout (Some m) fs last are.0) (omega (arith, up, length-run layout (suc n) bytes)) are.2)
          (rest_bytes table layout (Some (front t)) (whole first (suc n) bytes) body are.0 are.1 fits),
    )
rest_can table layout (part number offset bytes ∷ []) t last body are fits = (omega (arith, are.1.formed.goes_on.0), tt)
rest_can table layout (part number offset bytes ∷ f ∷ fs) t last body are fits = absurd (part_is_last table layout (Some (front t)) number offset bytes f fs last body are)

closed_can : (table : ℕ) (layout : Layout) (t : Table) (before : Option ℕ) (fs : List SeenFragment) (last : ℕ) (body : List ℕ) → AreFragments table layout before fs last body → IsBytes body
    → BeginsFrom (front t) fs → CanAllBeKept layout (without_partial t) fs
closed_can table layout t before [] last body are fits begins = tt
closed_can table layout t before (whole first zero bytes ∷ fs) last body are fits begins =
    (tt, closed_can table layout t (Some (first + 0)) fs last are.0 are.2 (rest_bytes table layout before (whole first zero bytes) body are.0 are.1 fits) begins)
closed_can table layout t before (whole first (suc n) bytes ∷ fs) last body are fits begins =
    let cs = map content (cut_records layout (suc n) bytes) in
    let up = front-grown first cs t begins in (
      run_can table layout before t first n bytes body are.0 begins are.1 fits,
      rest_can table layout fs (grown first cs t) last are.0 (subst (λ m. AreFragments table layout (Some m) fs last are.0) (omega (arith, up, length-run layout (suc n) bytes)) are.2)
          (rest_bytes table layout before (whole first (suc n) bytes) body are.0 are.1 fits),
    )
closed_can table layout t before (part number offset bytes ∷ []) last body are fits begins = (begins.0, tt)
closed_can table layout t before (part number offset bytes ∷ f ∷ fs) last body are fits begins = absurd (part_is_last table layout before number offset bytes f fs last body are)

open_can : (table : ℕ) (layout : Layout) (t : Table) (have : List ℕ) (before : Option ℕ) (fs : List SeenFragment) (last : ℕ) (body : List ℕ) → AreFragments table layout before fs last body
    → BeginsWithPart (front t) (length have) fs → CanAllBeKept layout (record { table = t; partial = have }) fs
open_can table layout t have before [] last body are begins = tt
open_can table layout t have before (whole first zero bytes ∷ fs) last body are begins = (tt, open_can table layout t have (Some (first + 0)) fs last are.0 are.2 begins)
open_can table layout t have before (whole first (suc n) bytes ∷ fs) last body are begins = absurd begins
open_can table layout t have before (part number offset bytes ∷ []) last body are begins = (omega (arith, begins.0), tt)
open_can table layout t have before (part number offset bytes ∷ f ∷ fs) last body are begins = absurd (part_is_last table layout before number offset bytes f fs last body are)

pub all_can : (layout : Layout) (k : Known) (table : ℕ) (reply : SeenReply) (message : List ℕ) → CollectReads table layout reply message → IsBytes message → reply.resp ≡ 0 → FitsKnown k reply.fragments
    → CanAllBeKept layout k reply.fragments
all_can layout k table reply message reads fits complete next =
    let are = fragments_in table layout reply.resp reply.more reply.fragments reads.body complete reads.has in
    go k.partial are next
  where
    body_fits : IsBytes reads.body
    body_fits = IsBytes-drop 3 (0x89 ∷ reply.tran ∷ reply.resp ∷ reads.body) (subst IsBytes reads.parts fits)

    go : (have : List ℕ) → ((last : ℕ) × AreFragments table layout None reply.fragments last reads.body) → FitsNext (front k.table) have reply.fragments
        → CanAllBeKept layout (record { table = k.table; partial = have }) reply.fragments
    go [] are begins = closed_can table layout k.table None reply.fragments are.0 reads.body are.1 body_fits begins
    go (b ∷ bs) are begins = open_can table layout k.table (b ∷ bs) None reply.fragments are.0 reads.body are.1 begins

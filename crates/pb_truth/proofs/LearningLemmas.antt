-- What a true answer teaches is true.
use Rattle.std.proofs.Common.{◌≡◌, ◌⊎◌, inl, inr, ⊎_elim, ℕ, zero, suc, ◌+◌, ◌-◌, ◌<◌, ◌≤◌, max, Bool, true, false, List, [], ◌∷◌, ◌++◌, length, map, take, drop, refl, sym, ◌∙◌, ap, subst, arith, Some, None, length-append, append_assoc, append-nil}
use Rattle.std.specs.Prelude.{Option, ⊤, ◌==◌, if◌then◌else◌, replicate, slice_get}
use Rattle.std.specs.List.{AllByRecursion}
use Rattle.std.proofs.lemmas.List.{take_at, length-map, length-replicate}
use Rattle.std.proofs.lemmas.Bool.{eqb-true, cases_lt}
use Rattle.std.proofs.lemmas.Option.{same_Some, none-some}
use Rattle.pb_base.specs.declared.layout.Layout.{Layout}
use Rattle.pb_base.specs.World.{StoredRecord}
use Rattle.pb_base.specs.History.{History, IsFront}
use Rattle.pb_base.specs.Record.{content, content_len, cut_records, records_from}
use Rattle.pb_base.specs.Request as asked
use Rattle.pb_base.specs.Request.{Mode}
use Rattle.pb_bmp5.specs.CollectReply.{SeenFragment, whole, part, SeenReply, AreFragments, HasBody, CollectReads}
use Rattle.pb_bmp5.specs.TrueReply.{Stage, IsStage, HasNone, BeginsAt, Answers, HoldsPart, Holds, IsTrueAnswer}
use Rattle.pb_bmp5.proofs.LeadingLemmas.{leading-number}
use Rattle.pb_archive.specs.Archive.{Table, front, grown, record_layout}
use Rattle.pb_archive.specs.Truth.{IsContentOf, RowsAreTrue, SoundTable}
use Rattle.pb_truth.specs.Asked.{AsksFromAtMost}
use Rattle.pb_truth.specs.Learning.{Known, without_partial, BeginsContent, SoundKnown, BeginsFrom, BeginsWithPart, FitsNext, FitsKnown, joined, taken, learned}

-- ---- rows that fit

fit-append : (h : History) (n : ℕ) (xs ys : List (Option (List ℕ))) → RowsAreTrue h n xs → RowsAreTrue h (n + length xs) ys → RowsAreTrue h n (xs ++ ys)
fit-append h n [] ys a b = subst (λ i. RowsAreTrue h i ys) (omega arith) b
fit-append h n (x ∷ xs) ys a b = (a.0, fit-append h (suc n) xs ys a.1 (subst (λ i. RowsAreTrue h i ys) (omega arith) b))

gaps_fit : (h : History) (n d : ℕ) → (d ≡ 0) ⊎ (n + d ≤ h.oldest) → RowsAreTrue h n (replicate d None)
gaps_fit h n zero le = tt
gaps_fit h n (suc d) (inl none) = absurd (omega (arith, none))
gaps_fit h n (suc d) (inr le) = (omega (arith, le), gaps_fit h (suc n) d (inr (omega (arith, le))))

-- records that lie one after another, from a number on
contents_fit : (h : History) (n : ℕ) (rs : List StoredRecord) → ((i : ℕ) (r : StoredRecord) → slice_get rs i ≡ Some r → slice_get h.records (n + i) ≡ Some r)
    → RowsAreTrue h n (map Some (map content rs))
contents_fit h n [] at = tt
contents_fit h n (r ∷ rs) at = (
  record { stored = r; is = subst (λ i. slice_get h.records i ≡ Some r) (omega arith) (at 0 r refl); same = refl },
  contents_fit h (suc n) rs (λ i x is. subst (λ j. slice_get h.records j ≡ Some x) (omega arith) (at (suc i) x is)),
)

taken_at : {A : Type 0} (k : ℕ) (xs : List A) (i : ℕ) (x : A) → slice_get (take k xs) i ≡ Some x → slice_get xs i ≡ Some x
taken_at zero xs i x is = absurd (none-some x is)
taken_at (suc k) [] i x is = absurd (none-some x is)
taken_at (suc k) (y ∷ xs) zero x is = is
taken_at (suc k) (y ∷ xs) (suc i) x is = taken_at k xs i x is

dropped_at : {A : Type 0} (n : ℕ) (xs : List A) (i : ℕ) (x : A) → slice_get (drop n xs) i ≡ Some x → slice_get xs (n + i) ≡ Some x
dropped_at zero xs i x is = subst (λ j. slice_get xs j ≡ Some x) (omega arith) is
dropped_at (suc n) [] i x is = absurd (none-some x is)
dropped_at (suc n) (y ∷ xs) i x is =
    let suc_is : suc (n + i) ≡ suc n + i = omega arith in subst (λ j. slice_get (y ∷ xs) j ≡ Some x) suc_is (dropped_at n xs i x is)

length-records : (layout : Layout) (run : List ℕ) (k n : ℕ) → length (records_from layout run k n) ≡ n
length-records layout run k zero = refl
length-records layout run k (suc n) = omega (arith, length-records layout run (suc k) n)

-- the contents that a fragment of whole records has
abbrev run_contents : Layout → ℕ → List ℕ → List (List ℕ)
run_contents layout n bytes = map content (cut_records layout n bytes)

pub length-run : (layout : Layout) (n : ℕ) (bytes : List ℕ) → length (run_contents layout n bytes) ≡ n
length-run layout n bytes = length-map (cut_records layout n bytes) content ∙ length-records layout bytes 0 n

run_fits : (layout : Layout) (h : History) (first n : ℕ) (bytes : List ℕ) → cut_records layout n bytes ≡ take n (drop first h.records)
    → RowsAreTrue h first (map Some (run_contents layout n bytes))
run_fits layout h first n bytes same =
    contents_fit h first (cut_records layout n bytes)
    (λ i r is. dropped_at first h.records i r (taken_at n (drop first h.records) i r (subst (λ rs. slice_get rs i ≡ Some r) same is)))

-- ---- tables that grow

abbrev gap : Option (List ℕ)
gap = None

abbrev kept : List ℕ → Option (List ℕ)
kept bytes = Some bytes

pub front-grown : (first : ℕ) (cs : List (List ℕ)) (t : Table) → front t ≤ first → front (grown first cs t) ≡ first + length cs
front-grown first cs t low =
    let e = length-append t.rows (replicate (first - length t.rows) None ++ map Some cs) in
    let f = length-append (replicate (first - length t.rows) gap) (map Some cs) in
    let g = length-replicate (first - length t.rows) gap in
    let m = length-map cs kept in
    omega (arith, e, f, g, m, low)

-- what a station held at one moment is added: from the front on, or after a gap where it held nothing lower
pub sound_grown : (t : Table) (h : History) (stage : Stage) (first : ℕ) (cs : List (List ℕ)) → SoundTable t h → IsStage h stage → front t ≤ first
    → (first ≤ front t) ⊎ (first ≤ stage.oldest) → first + length cs ≤ stage.next → RowsAreTrue h first (map Some cs) → SoundTable (grown first cs t) h
sound_grown t h stage first cs sound lies low start high fit = record {
  below = omega (arith, front-grown first cs t low, high, lies.stored);
  fit = fit-append h 0 t.rows (replicate (first - length t.rows) None ++ map Some cs) sound.fit
      (subst (λ i. RowsAreTrue h i (replicate (first - length t.rows) None ++ map Some cs)) (omega arith)
      (fit-append h (length t.rows) (replicate (first - length t.rows) None) (map Some cs)
      (gaps_fit h (length t.rows) (first - length t.rows) (⊎_elim (λ e. inl (omega (arith, e))) (λ e. inr (omega (arith, e, low, lies.overwritten))) start))
      (subst (λ i. RowsAreTrue h i (map Some cs)) (omega (arith, low, length-replicate (first - length t.rows) gap)) fit)));
}

-- ---- parts

no_length : (xs : List ℕ) → length xs ≡ 0 → xs ≡ []
no_length [] none = refl
no_length (x ∷ xs) none = absurd (omega (arith, none))

length-content : (r : StoredRecord) → length (content r) ≡ 8 + length r.bytes
length-content r = omega arith

-- the bytes from the first on are the content where they are as long
beginning_is_all : (layout : Layout) (h : History) (n : ℕ) (bytes : List ℕ) → BeginsContent layout h n bytes → length bytes ≡ content_len layout → IsContentOf h n bytes
beginning_is_all layout h n bytes b long =
    let rest : length b.after ≡ 0 = omega (arith, long, ap length b.parts, length-append bytes b.after, length-content b.stored, b.sized) in
    record { stored = b.stored; is = b.is; same = sym (b.parts ∙ ap (λ l. bytes ++ l) (no_length b.after rest) ∙ append-nil bytes) }

part_begins : (layout : Layout) (h : History) (stage : Stage) (n : ℕ) (bytes : List ℕ) → HoldsPart layout h stage n 0 bytes → BeginsContent layout h n bytes
part_begins layout h stage n bytes p = record {
  stored = p.stored;
  is = p.is;
  sized = p.sized;
  after = p.after;
  parts = p.parts ∙ ap (λ l. l ++ (bytes ++ p.after)) (no_length p.before p.place);
}

-- the bytes at hand, and those that go on where they end
part_joins : (layout : Layout) (h : History) (stage : Stage) (n : ℕ) (have bytes : List ℕ) → BeginsContent layout h n have
    → HoldsPart layout h stage n (length have) bytes → BeginsContent layout h n (have ++ bytes)
part_joins layout h stage n have bytes b p =
    let same : b.stored ≡ p.stored = same_Some b.stored p.stored (sym b.is ∙ p.is) in
    let cut : have ++ b.after ≡ p.before ++ (bytes ++ p.after) = sym b.parts ∙ ap content same ∙ p.parts in
    let before : have ≡ p.before = sym (take_at have b.after (length have) refl) ∙ ap (take (length have)) cut ∙ take_at p.before (bytes ++ p.after) (length have) p.place in
    record {
      stored = p.stored;
      is = p.is;
      sized = p.sized;
      after = p.after;
      parts = p.parts ∙ ap (λ l. l ++ (bytes ++ p.after)) (sym before) ∙ sym (append_assoc have bytes p.after);
    }

-- a whole record is kept, or less than that is open
joined_sound : (t : Table) (h : History) (stage : Stage) (n : ℕ) (bytes : List ℕ) → SoundTable t h → IsStage h stage → front t ≤ n
    → (n ≤ front t) ⊎ (n ≤ stage.oldest) → n < stage.next → BeginsContent (record_layout t.definition) h n bytes
    → SoundKnown (joined (record_layout t.definition) n bytes t) h
joined_sound t h stage n bytes sound lies low start there begins =
    cases (length bytes == content_len (record_layout t.definition)) (λ e. eqb-true (length bytes) (content_len (record_layout t.definition)) e)
  where
    cases : (b : Bool) → (b ≡ true → length bytes ≡ content_len (record_layout t.definition))
        → SoundKnown (if b then without_partial (grown n (bytes ∷ []) t) else record { table = grown n [] t; partial = bytes }) h
    cases true long = record {
      table = sound_grown t h stage n (bytes ∷ []) sound lies low start (omega (arith, there)) (beginning_is_all (record_layout t.definition) h n bytes begins (long refl), tt);
      partial = λ some. absurd (omega (arith, some));
    }
    cases false long = record {
      table = sound_grown t h stage n [] sound lies low start (omega (arith, there)) tt;
      partial = λ some. subst (λ m. BeginsContent (record_layout t.definition) h m bytes) (sym (front-grown n [] t low ∙ omega arith)) begins;
    }

-- ---- fragments one after another

-- after a part there is no fragment
pub part_is_last : (table : ℕ) (layout : Layout) (before : Option ℕ) (number offset : ℕ) (bytes : List ℕ) (f : SeenFragment) (fs : List SeenFragment) (last : ℕ) (body : List ℕ)
    → AreFragments table layout before (part number offset bytes ∷ f ∷ fs) last body → ⊥
part_is_last table layout before number offset bytes f fs last body are =
    let one = are.1.leads.its_bytes in
    let next = are.2 in
    let long = leading-number layout table f next.1.after are.0 next.1.leads in
    omega (arith, one, ap length are.1.goes, long.1)

-- fragments that go on at the front
rest_sound : (h : History) (stage : Stage) → IsStage h stage → (table : ℕ) (fs : List SeenFragment) (t : Table) (last : ℕ) (body : List ℕ) → SoundTable t h
    → AreFragments table (record_layout t.definition) (Some (front t)) fs last body → AllByRecursion (Holds (record_layout t.definition) h stage) fs
    → SoundKnown (learned (record_layout t.definition) (without_partial t) fs) h
rest_sound h stage lies table [] t last body sound are holds = record { table = sound; partial = λ some. absurd (omega (arith, some)) }
rest_sound h stage lies table (whole first zero bytes ∷ fs) t last body sound are holds =
    rest_sound h stage lies table fs t last are.0 sound
    (subst (λ n. AreFragments table (record_layout t.definition) (Some n) fs last are.0) (omega (arith, are.1.formed.goes_on)) are.2) holds.1
rest_sound h stage lies table (whole first (suc k) bytes ∷ fs) t last body sound are holds =
    let layout = record_layout t.definition in
    let cs = run_contents layout (suc k) bytes in
    let many = length-run layout (suc k) bytes in
    let on = are.1.formed.goes_on in
    rest_sound h stage lies table fs (grown first cs t) last are.0
    (sound_grown t h stage first cs sound lies (omega (arith, on)) (inl (omega (arith, on))) (omega (arith, many, holds.0.there)) (run_fits layout h first (suc k) bytes holds.0.same))
    (subst (λ n. AreFragments table layout (Some n) fs last are.0) (omega (arith, many, front-grown first cs t (omega (arith, on)))) are.2) holds.1
rest_sound h stage lies table (part number offset bytes ∷ []) t last body sound are holds =
    let on = are.1.formed.goes_on in
    joined_sound t h stage number bytes sound lies (omega (arith, on.0)) (inl (omega (arith, on.0))) holds.0.there
    (part_begins (record_layout t.definition) h stage number bytes (subst (λ i. HoldsPart (record_layout t.definition) h stage number i bytes) on.1 holds.0))
rest_sound h stage lies table (part number offset bytes ∷ f ∷ fs) t last body sound are holds =
    absurd (part_is_last table (record_layout t.definition) (Some (front t)) number offset bytes f fs last body are)

-- ---- where an answer begins

-- what there is at the number or above begins there, or where the station held nothing lower
abbrev IsFrom : ℕ → ℕ → ℕ → Type 0
IsFrom at oldest number = at ≤ number → (number ≤ at) ⊎ (number ≤ oldest)

abbrev StartsFrom : ℕ → ℕ → List SeenFragment → Type 0
StartsFrom at oldest [] = ⊤
StartsFrom at oldest (whole first zero bytes ∷ fs) = StartsFrom at oldest fs
StartsFrom at oldest (whole first (suc k) bytes ∷ fs) = IsFrom at oldest first
StartsFrom at oldest (part number offset bytes ∷ fs) = IsFrom at oldest number

begun_at : (asked_from at oldest number : ℕ) → asked_from ≤ at → number ≡ max asked_from oldest → IsFrom at oldest number
begun_at asked_from at oldest number low is high =
    ⊎_elim (λ l. inr (omega (arith, is, l))) (λ l. inl (omega (arith, is, l, low))) (cases_lt asked_from oldest)

run_starts : (asked_from at oldest : ℕ) (fs : List SeenFragment) → asked_from ≤ at → BeginsAt (max asked_from oldest) fs → StartsFrom at oldest fs
run_starts asked_from at oldest [] low begins = tt
run_starts asked_from at oldest (whole first zero bytes ∷ fs) low begins = run_starts asked_from at oldest fs low begins
run_starts asked_from at oldest (whole first (suc k) bytes ∷ fs) low begins = begun_at asked_from at oldest first low begins
run_starts asked_from at oldest (part number offset bytes ∷ fs) low begins = begun_at asked_from at oldest number low begins.0

none_starts : (at oldest : ℕ) (fs : List SeenFragment) → HasNone fs → StartsFrom at oldest fs
none_starts at oldest [] none = tt
none_starts at oldest (whole first zero bytes ∷ fs) none = none_starts at oldest fs none
none_starts at oldest (whole first (suc k) bytes ∷ fs) none = absurd none
none_starts at oldest (part number offset bytes ∷ fs) none = absurd none

answer_starts : (layout : Layout) (mode : Mode) (h : History) (stage : Stage) (reply : SeenReply) (at : ℕ) → AsksFromAtMost at mode
    → Answers layout mode h stage reply → StartsFrom at stage.oldest reply.fragments
answer_starts layout asked.All h stage reply at below answers = absurd below
answer_starts layout (asked.From number) h stage reply at below answers = run_starts number at stage.oldest reply.fragments below answers.begins
answer_starts layout (asked.Newest count) h stage reply at below answers = absurd below
answer_starts layout (asked.Range from to) h stage reply at below answers = absurd below
answer_starts layout (asked.Times from to) h stage reply at below answers = absurd below
answer_starts layout (asked.Part number offset) h stage reply at below answers =
    ⊎_elim (λ one. subst (λ fs. StartsFrom at stage.oldest fs) (sym one.one) (λ high. inl below)) (λ none. none_starts at stage.oldest reply.fragments none.0) answers

-- ---- an answer

-- while no record is open
closed_sound : (h : History) (stage : Stage) → IsStage h stage → (table : ℕ) (t : Table) (before : Option ℕ) (fs : List SeenFragment) (last : ℕ) (body : List ℕ) → SoundTable t h
    → AreFragments table (record_layout t.definition) before fs last body → AllByRecursion (Holds (record_layout t.definition) h stage) fs
    → StartsFrom (front t) stage.oldest fs → BeginsFrom (front t) fs → SoundKnown (learned (record_layout t.definition) (without_partial t) fs) h
closed_sound h stage lies table t before [] last body sound are holds starts fits = record { table = sound; partial = λ some. absurd (omega (arith, some)) }
closed_sound h stage lies table t before (whole first zero bytes ∷ fs) last body sound are holds starts fits =
    closed_sound h stage lies table t (Some (first + 0)) fs last are.0 sound are.2 holds.1 starts fits
closed_sound h stage lies table t before (whole first (suc k) bytes ∷ fs) last body sound are holds starts fits =
    let layout = record_layout t.definition in
    let cs = run_contents layout (suc k) bytes in
    let many = length-run layout (suc k) bytes in
    rest_sound h stage lies table fs (grown first cs t) last are.0
    (sound_grown t h stage first cs sound lies fits (starts fits) (omega (arith, many, holds.0.there)) (run_fits layout h first (suc k) bytes holds.0.same))
    (subst (λ n. AreFragments table layout (Some n) fs last are.0) (omega (arith, many, front-grown first cs t fits)) are.2) holds.1
closed_sound h stage lies table t before (part number offset bytes ∷ []) last body sound are holds starts fits =
    joined_sound t h stage number bytes sound lies fits.0 (starts fits.0) holds.0.there
    (part_begins (record_layout t.definition) h stage number bytes (subst (λ i. HoldsPart (record_layout t.definition) h stage number i bytes) fits.1 holds.0))
closed_sound h stage lies table t before (part number offset bytes ∷ f ∷ fs) last body sound are holds starts fits =
    absurd (part_is_last table (record_layout t.definition) before number offset bytes f fs last body are)

-- while these bytes of the record at the front are open
open_sound : (h : History) (stage : Stage) → IsStage h stage → (table : ℕ) (t : Table) (have : List ℕ) (before : Option ℕ) (fs : List SeenFragment) (last : ℕ) (body : List ℕ) → SoundTable t h
    → BeginsContent (record_layout t.definition) h (front t) have → AreFragments table (record_layout t.definition) before fs last body
    → AllByRecursion (Holds (record_layout t.definition) h stage) fs → BeginsWithPart (front t) (length have) fs
    → SoundKnown (learned (record_layout t.definition) (record { table = t; partial = have }) fs) h
open_sound h stage lies table t have before [] last body sound begins are holds fits = record { table = sound; partial = λ some. begins }
open_sound h stage lies table t have before (whole first zero bytes ∷ fs) last body sound begins are holds fits =
    open_sound h stage lies table t have (Some (first + 0)) fs last are.0 sound begins are.2 holds.1 fits
open_sound h stage lies table t have before (whole first (suc k) bytes ∷ fs) last body sound begins are holds fits = absurd fits
open_sound h stage lies table t have before (part number offset bytes ∷ []) last body sound begins are holds fits =
    let layout = record_layout t.definition in
    joined_sound t h stage number (have ++ bytes) sound lies (omega (arith, fits.0)) (inl (omega (arith, fits.0))) holds.0.there
    (part_joins layout h stage number have bytes (subst (λ n. BeginsContent layout h n have) (sym fits.0) begins) (subst (λ i. HoldsPart layout h stage number i bytes) fits.1 holds.0))
open_sound h stage lies table t have before (part number offset bytes ∷ f ∷ fs) last body sound begins are holds fits =
    absurd (part_is_last table (record_layout t.definition) before number offset bytes f fs last body are)

-- what reads as a reply with code 0 has a body of fragments
pub fragments_in : (table : ℕ) (layout : Layout) (resp : ℕ) (more : Bool) (fs : List SeenFragment) (body : List ℕ) → resp ≡ 0 → HasBody table layout resp more fs body
    → (last : ℕ) × AreFragments table layout None fs last body
fragments_in table layout zero more fs body complete has = (has.0, has.1)
fragments_in table layout (suc resp) more fs body complete has = absurd (omega (arith, complete))

-- The law: a true answer to a request from the front or below, which fits what is asked next.
pub learned_sound : (k : Known) (h : History) (mode : Mode) (reply : SeenReply) (message : List ℕ) → SoundKnown k h → IsTrueAnswer (record_layout k.table.definition) mode h reply
    → CollectReads k.table.key.number (record_layout k.table.definition) reply message → reply.resp ≡ 0 → AsksFromAtMost (front k.table) mode
    → FitsKnown k reply.fragments → SoundKnown (learned (record_layout k.table.definition) k reply.fragments) h
learned_sound k h mode reply message sound answer reads complete below fits =
    go k.partial sound.partial fits
  where
    layout : Layout
    layout = record_layout k.table.definition

    go : (have : List ℕ) → (0 < length have → BeginsContent (record_layout k.table.definition) h (front k.table) have) → FitsNext (front k.table) have reply.fragments
        → SoundKnown (learned (record_layout k.table.definition) (record { table = k.table; partial = have }) reply.fragments) h
    go [] begins fit =
        let are = fragments_in k.table.key.number (record_layout k.table.definition) reply.resp reply.more reply.fragments reads.body complete reads.has in
        closed_sound h answer.stage answer.lies k.table.key.number k.table None reply.fragments are.0 reads.body sound.table are.1 answer.holds
        (answer_starts (record_layout k.table.definition) mode h answer.stage reply (front k.table) below answer.answers) fit
    go (b ∷ bs) begins fit =
        let are = fragments_in k.table.key.number (record_layout k.table.definition) reply.resp reply.more reply.fragments reads.body complete reads.has in
        open_sound h answer.stage answer.lies k.table.key.number k.table (b ∷ bs) None reply.fragments are.0 reads.body sound.table (begins (omega arith)) are.1 answer.holds fit

-- ---- rows are only added

pub IsFront-refl : {A : Type 0} (xs : List A) → IsFront xs xs
IsFront-refl xs = ([], sym (append-nil xs))

pub IsFront-trans : {A : Type 0} (xs ys zs : List A) → IsFront xs ys → IsFront ys zs → IsFront xs zs
IsFront-trans xs ys zs (a, p) (b, q) = (a ++ b, q ∙ ap (λ l. l ++ b) p ∙ append_assoc xs a b)

abbrev rows_of : Known → List (Option (List ℕ))
rows_of k = k.table.rows

taken_adds : (layout : Layout) (k : Known) (f : SeenFragment) → IsFront k.table.rows (taken layout k f).table.rows
taken_adds layout k (whole first zero bytes) = IsFront-refl k.table.rows
taken_adds layout k (whole first (suc n) bytes) = (_, refl)
taken_adds layout k (part number offset bytes) = cases (length (k.partial ++ bytes) == content_len layout)
  where
    cases : (b : Bool) → IsFront k.table.rows (rows_of (if b then without_partial (grown number ((k.partial ++ bytes) ∷ []) k.table) else record { table = grown number [] k.table; partial = k.partial ++ bytes }))
    cases true = (_, refl)
    cases false = (_, refl)

pub learned_adds : (layout : Layout) (fs : List SeenFragment) (k : Known) → IsFront k.table.rows (learned layout k fs).table.rows
learned_adds layout [] k = IsFront-refl k.table.rows
learned_adds layout (f ∷ fs) k =
    IsFront-trans k.table.rows (taken layout k f).table.rows (learned layout (taken layout k f) fs).table.rows (taken_adds layout k f) (learned_adds layout fs (taken layout k f))

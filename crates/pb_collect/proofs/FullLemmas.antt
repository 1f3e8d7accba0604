-- What a full answer makes of a table that is collected.
use Rattle.std.proofs.Common.{◌≡◌, ℕ, zero, suc, ◌+◌, ◌<◌, ◌≤◌, Bool, true, false, List, [], ◌∷◌, length, Some, None, Option, refl, sym, ◌∙◌, ap, subst, length-append, arith}
use Rattle.std.specs.Prelude.{if◌then◌else◌, ◌&&◌, nat_lt}
use Rattle.std.specs.List.{Contains}
use Rattle.std.proofs.lemmas.Bool.{false≢true, ltb-true, ltb-false}
use Rattle.pb_base.specs.declared.layout.Layout.{Layout}
use Rattle.pb_base.specs.History.{History}
use Rattle.pb_base.specs.Request.{Request}
use Rattle.pb_base.specs.Request as base
use Rattle.pb_base.specs.World.{TableDefinition}
use Rattle.pb_bmp5.specs.Asking.{asked_mode}
use Rattle.pb_bmp5.specs.CollectReply.{SeenFragment, whole, part, SeenReply, CollectReads, AreFragments}
use Rattle.pb_bmp5.specs.TrueReply.{Stage, IsTrueAnswer, IsTrueOf, IsFull, AnswersFully, run_of}
use Rattle.pb_bmp5.proofs.ReadLemmas.{reads-one}
use Rattle.pb_archive.specs.Archive.{front}
use Rattle.pb_truth.specs.Bound.{has_some, mode_from, mode_of, next_known}
use Rattle.pb_truth.specs.Learning.{Known, learned, taken, without_partial}
use Rattle.pb_truth.proofs.LearningLemmas.{part_is_last}
use Rattle.pb_collect.specs.Ends.{asked_once_more, has_part, kept_partial}
use Rattle.pb_collect.specs.Progress.{Progress, IsAt, CanTakeAll, after, after_all, partial_bytes, question, taken_to}
use Rattle.pb_collect.proofs.ProgressLemmas.{known_taken}

pub and_left : (a b : Bool) → (a && b) ≡ true → a ≡ true
and_left true b is = refl
and_left false b is = is

and_right : (a b : Bool) → (a && b) ≡ true → b ≡ true
and_right true b is = is
and_right false b is = absurd (false≢true is)

and_not : (a b : Bool) → (a && b) ≡ false → a ≡ true → b ≡ false
and_not true b is so = is
and_not false b is so = absurd (false≢true so)

-- ---- what is known after all fragments

layout_stays : (p : Progress) (f : SeenFragment) → (after p f).layout ≡ p.layout
layout_stays p (whole first zero bytes) = refl
layout_stays p (whole first (suc n) bytes) = refl
layout_stays p (part number offset bytes) = refl

pub known_all : (p : Progress) (k : Known) (fs : List SeenFragment) → CanTakeAll p fs → IsAt p k → IsAt (after_all p fs) (learned p.layout k fs)
known_all p k [] can at = at
known_all p k (f ∷ fs) can at =
    subst (λ (l : Layout). IsAt (after_all (after p f) fs) (learned l (taken p.layout k f) fs)) (layout_stays p f)
    (known_all (after p f) (taken p.layout k f) fs can.1 (known_taken p k f can.0 at))

had_stays : (p : Progress) (fs : List SeenFragment) → (after_all p fs).had ≡ p.had
had_stays p [] = refl
had_stays p (whole first zero bytes ∷ fs) = had_stays p fs
had_stays p (whole first (suc n) bytes ∷ fs) = had_stays (after p (whole first (suc n) bytes)) fs
had_stays p (part number offset bytes ∷ fs) = had_stays (after p (part number offset bytes)) fs

pub layout_after : (p : Progress) (fs : List SeenFragment) → (after_all p fs).layout ≡ p.layout
layout_after p [] = refl
layout_after p (f ∷ fs) = layout_after (after p f) fs ∙ layout_stays p f

pub asked_after : (p : Progress) (fs : List SeenFragment) → (after_all p fs).asked ≡ p.asked
asked_after p [] = refl
asked_after p (whole first zero bytes ∷ fs) = asked_after p fs
asked_after p (whole first (suc n) bytes ∷ fs) = asked_after (after p (whole first (suc n) bytes)) fs
asked_after p (part number offset bytes ∷ fs) = asked_after (after p (part number offset bytes)) fs

nothing_after : (p : Progress) (fs : List SeenFragment) → has_some fs ≡ false → after_all p fs ≡ p
nothing_after p [] none = refl
nothing_after p (whole first zero bytes ∷ fs) none = nothing_after p fs none
nothing_after p (whole first (suc n) bytes ∷ fs) none = absurd (false≢true (sym none))
nothing_after p (part number offset bytes ∷ fs) none = absurd (false≢true (sym none))

-- a partial record has more bytes after an answer with something of it
longer : (table : ℕ) (p : Progress) (before : Option ℕ) (fs : List SeenFragment) (last : ℕ) (body : List ℕ) → AreFragments table p.layout before fs last body → CanTakeAll p fs
    → has_some fs ≡ true → (after_all p fs).is_partial ≡ true → length (partial_bytes p) < length (after_all p fs).joined
longer table p before [] last body are can some partial = absurd (false≢true some)
longer table p before (whole first zero bytes ∷ fs) last body are can some partial = longer table p (Some (first + 0)) fs last are.0 are.2 can.1 some partial
longer table p before (whole first (suc n) bytes ∷ fs) last body are can some partial =
    by (has_some fs) refl (λ is. longer table (taken_to p (first + suc n) false p.joined) (Some (first + suc n)) fs last are.0 are.2 can.1 is partial)
  where
    closed : length (partial_bytes p) ≡ 0
    closed = rw can.0.closed refl

    by : (b : Bool) → has_some fs ≡ b → (has_some fs ≡ true → 0 < length (after_all (taken_to p (first + suc n) false p.joined) fs).joined)
        → length (partial_bytes p) < length (after_all (taken_to p (first + suc n) false p.joined) fs).joined
    by true is rest = omega (arith, rest is, closed)
    by false is rest = absurd (false≢true (sym (ap (λ (x : Progress). x.is_partial) (nothing_after (taken_to p (first + suc n) false p.joined) fs is)) ∙ partial))
longer table p before (part number offset bytes ∷ []) last body are can some partial = omega (arith, can.0.some, length-append (partial_bytes p) bytes)
longer table p before (part number offset bytes ∷ f ∷ fs) last body are can some partial = absurd (part_is_last table p.layout before number offset bytes f fs last body are)

-- ---- between two requests

-- so many bytes of a partial record were at hand when it was asked, and there are some
pub record IsAsking (p : Progress) : Type 0 where
  pub had : p.had ≡ length (partial_bytes p)
  pub some : p.is_partial ≡ true → 0 < length p.joined

pub asking_next : (p : Progress) → (has_part p ≡ true → 0 < length p.joined) → IsAsking (asked_once_more (kept_partial p))
asking_next p some = by (has_part p) some
  where
    had_is : (b : Bool) (n : ℕ) (l : List ℕ) → n ≡ length l → (if b then n else 0) ≡ length (if b then l else [])
    had_is true n l is = is
    had_is false n l is = refl

    by : (b : Bool) → (b ≡ true → 0 < length p.joined) → IsAsking (asked_once_more (if b then p else record p { is_partial = false }))
    by true some = record { had = had_is p.is_partial (length p.joined) p.joined refl; some = λ is. some refl }
    by false some = record { had = refl; some = λ is. absurd (false≢true is) }

-- what is asked is what is known
pub mode_known : (p : Progress) (k : Known) → IsAt p k → IsAsking p → asked_mode (question p) ≡ mode_of k
mode_known p k at asking =
    by p.is_partial refl ∙ ap (λ n. mode_from n (partial_bytes p)) at.front ∙ ap (λ l. mode_from (front k.table) l) at.partial
  where
    some_part : (n : ℕ) (l : List ℕ) → 0 < length l → base.Part n (length l) ≡ mode_from n l
    some_part n [] some = absurd (omega (arith, some))
    some_part n (b ∷ bs) some = refl

    by : (b : Bool) → p.is_partial ≡ b → asked_mode (question p) ≡ mode_from p.front (partial_bytes p)
    by true is = rw is (some_part p.front p.joined (asking.some is))
    by false is = rw is refl

module _ (table : ℕ) (p : Progress) (k : Known) (fs : List SeenFragment) (last : ℕ) (body : List ℕ) (are : AreFragments table p.layout None fs last body) (can : CanTakeAll p fs)
    (at : IsAt p k) (asking : IsAsking p) where
  abbrev mid : Progress
  mid = after_all p fs

  at_mid : IsAt (after_all p fs) (learned p.layout k fs)
  at_mid = known_all p k fs can at

  pub partial_some : (after_all p fs).is_partial ≡ true → 0 < length (after_all p fs).joined
  partial_some partial = by (has_some fs) refl
    where
      by : (b : Bool) → has_some fs ≡ b → 0 < length (after_all p fs).joined
      by true is = omega (arith, longer table p None fs last body are can is partial)
      by false is =
          let same = nothing_after p fs is in
          omega (arith, ap (λ (x : Progress). length x.joined) same, asking.some (sym (ap (λ (x : Progress). x.is_partial) same) ∙ partial))

  -- the next request is made from what is known then
  pub at_next : IsAt (asked_once_more (kept_partial (after_all p fs))) (next_known p.layout k fs)
  at_next = by (has_part (after_all p fs)) (has_some fs) refl refl
    where
      part_long : has_part (after_all p fs) ≡ true → (after_all p fs).had < length (after_all p fs).joined
      part_long is = ltb-true (after_all p fs).had (length (after_all p fs).joined) (and_right (after_all p fs).is_partial (nat_lt (after_all p fs).had (length (after_all p fs).joined)) is)

      short : has_part (after_all p fs) ≡ false → (after_all p fs).is_partial ≡ true → length (after_all p fs).joined ≤ (after_all p fs).had
      short is partial =
          ltb-false (after_all p fs).had (length (after_all p fs).joined)
          (and_not (after_all p fs).is_partial (nat_lt (after_all p fs).had (length (after_all p fs).joined)) is partial)

      none_partial : has_part (after_all p fs) ≡ false → has_some fs ≡ true → (b : Bool) → (after_all p fs).is_partial ≡ b → (if b then (after_all p fs).joined else []) ≡ []
      none_partial goes some true partial = absurd (omega (arith, short goes partial, longer table p None fs last body are can some partial, had_stays p fs, asking.had))
      none_partial goes some false partial = refl

      by : (b c : Bool) → has_part (after_all p fs) ≡ b → has_some fs ≡ c → IsAt (asked_once_more (if b then after_all p fs else record (after_all p fs) { is_partial = false })) (if c then learned p.layout k fs else without_partial (learned p.layout k fs).table)
      by true true goes some = record { layout = at_mid.layout; front = at_mid.front; partial = at_mid.partial }
      by false false goes some = record { layout = at_mid.layout; front = at_mid.front; partial = refl }
      by true false goes some =
          let same = nothing_after p fs some in
          let partial : p.is_partial ≡ true = sym (ap (λ (x : Progress). x.is_partial) same) ∙ and_left (after_all p fs).is_partial (nat_lt (after_all p fs).had (length (after_all p fs).joined)) goes in
          let all : length (partial_bytes p) ≡ length p.joined = rw partial refl in
          absurd (omega (arith, part_long goes, ap (λ (x : Progress). x.had) same, ap (λ (x : Progress). length x.joined) same, asking.had, all))
      by false true goes some = record {
        layout = at_mid.layout;
        front = at_mid.front;
        partial = sym (none_partial goes some (after_all p fs).is_partial refl) ∙ at_mid.partial;
      }

-- ---- a full reply that reads for the table

pub record FullAt (layout : Layout) (mode : base.Mode) (h : History) (reply : SeenReply) (stage : Stage) : Type 0 where
  pub answer : IsTrueAnswer layout mode h reply
  pub full : AnswersFully layout (run_of mode h answer.stage) reply
  pub stage_is : answer.stage ≡ stage

pub full_at : (r : Request) (message : List ℕ) (h : History) (layout : Layout) (reply : SeenReply) (t : IsTrueOf r message h) → IsFull t
    → ((d : TableDefinition) → Contains h.definitions d → d.layout ≡ layout) → CollectReads r.table.number layout reply message → FullAt layout r.mode h reply t.answer.stage
full_at r message h layout reply t full only reads =
    let same = only t.definition t.stood in
    let one = reads-one r.table.number layout t.reply reply message (subst (λ (l : Layout). CollectReads r.table.number l t.reply message) same t.reads) reads in
    subst (λ (a : SeenReply). FullAt layout r.mode h a t.answer.stage) one
    (subst (λ (l : Layout). FullAt l r.mode h t.reply t.answer.stage) same (record { answer = t.answer; full = full; stage_is = refl }))

-- The fragments of a reply that fits can be taken, one after the other.
use Rattle.std.proofs.Common.{◌≡◌, ℕ, zero, suc, ◌+◌, ◌≤◌, Bool, true, false, List, [], ◌∷◌, length, refl, sym, ◌∙◌, subst, arith, Some, None}
use Rattle.std.specs.Prelude.{Option}
use Rattle.std.proofs.lemmas.Bool.{false≢true}
use Rattle.pb_bmp5.specs.CollectReply.{SeenFragment, whole, part, SeenReply, Begins, AreFragments, CollectReads}
use Rattle.pb_truth.specs.Learning.{BeginsFrom, BeginsWithPart}
use Rattle.pb_truth.proofs.LearningLemmas.{part_is_last, fragments_in}
use Rattle.pb_collect.specs.Progress.{Progress, partial_bytes, question, BeginsAsAsked, Suits, IsNextPart, IsNextRun, taken_to, CanTakeAll}

-- ---- where what goes on begins

-- fragments that go on at a number begin there
begins_there : (table : ℕ) (p : Progress) (n : ℕ) (fs : List SeenFragment) (last : ℕ) (body : List ℕ) → AreFragments table p.layout (Some n) fs last body → BeginsFrom n fs
begins_there table p n [] last body are = tt
begins_there table p n (whole first zero bytes ∷ fs) last body are =
    begins_there table p n fs last are.0 (subst (λ m. AreFragments table p.layout (Some m) fs last are.0) (omega (arith, are.1.formed.goes_on)) are.2)
begins_there table p n (whole first (suc k) bytes ∷ fs) last body are = omega (arith, are.1.formed.goes_on)
begins_there table p n (part number offset bytes ∷ fs) last body are = (omega (arith, are.1.formed.goes_on.0), are.1.formed.goes_on.1)

-- ---- one fragment

run_can : (table : ℕ) (p : Progress) (before : Option ℕ) (first n : ℕ) (bytes body rest : List ℕ) → p.is_partial ≡ false → p.front ≤ first
    → Begins table p.layout before (whole first (suc n) bytes) body rest → IsNextRun p first (suc n) bytes
run_can table p before first n bytes body rest closed le b =
    record { closed = closed; low = le; run = record { len = b.leads.its_bytes; numbers = b.formed.numbered; times = b.formed.of_layout } }

part_can : (table : ℕ) (p : Progress) (before : Option ℕ) (number offset : ℕ) (bytes body rest : List ℕ) → p.front ≤ number → (p.is_partial ≡ true → number ≡ p.front) → offset ≡ length (partial_bytes p)
    → Begins table p.layout before (part number offset bytes) body rest → IsNextPart p number offset bytes
part_can table p before number offset bytes body rest le same place b = record {
  place = place;
  low = le;
  same = same;
  some = b.formed.of_layout.0;
  within = b.formed.of_layout.1;
  numbered = b.formed.numbered;
}

no_bytes : (p : Progress) → p.is_partial ≡ false → length (partial_bytes p) ≡ 0
no_bytes p closed = rw closed refl

-- ---- all of them

-- while no record is partial
closed_can : (table : ℕ) (p : Progress) (before : Option ℕ) (fs : List SeenFragment) (last : ℕ) (body : List ℕ) → p.is_partial ≡ false → AreFragments table p.layout before fs last body
    → BeginsFrom p.front fs → CanTakeAll p fs
closed_can table p before [] last body closed are begins = tt
closed_can table p before (whole first zero bytes ∷ fs) last body closed are begins =
    (tt, closed_can table p (Some (first + 0)) fs last are.0 closed are.2 begins)
closed_can table p before (whole first (suc n) bytes ∷ fs) last body closed are begins =
    let q = taken_to p (first + suc n) false p.joined in (
      run_can table p before first n bytes body are.0 closed begins are.1,
      closed_can table q (Some (first + suc n)) fs last are.0 refl are.2 (begins_there table q (first + suc n) fs last are.0 are.2),
    )
closed_can table p before (part number offset bytes ∷ []) last body closed are begins =
    (part_can table p before number offset bytes body are.0 begins.0 (λ is. absurd (false≢true (sym closed ∙ is))) (begins.1 ∙ sym (no_bytes p closed)) are.1, tt)
closed_can table p before (part number offset bytes ∷ f ∷ fs) last body closed are begins = absurd (part_is_last table p.layout before number offset bytes f fs last body are)

-- while a record is partial
open_can : (table : ℕ) (p : Progress) (before : Option ℕ) (fs : List SeenFragment) (last : ℕ) (body : List ℕ) → AreFragments table p.layout before fs last body
    → BeginsWithPart p.front (length (partial_bytes p)) fs → CanTakeAll p fs
open_can table p before [] last body are begins = tt
open_can table p before (whole first zero bytes ∷ fs) last body are begins = (tt, open_can table p (Some (first + 0)) fs last are.0 are.2 begins)
open_can table p before (whole first (suc n) bytes ∷ fs) last body are begins = absurd begins
open_can table p before (part number offset bytes ∷ []) last body are begins =
    (part_can table p before number offset bytes body are.0 (omega (arith, begins.0)) (λ is. begins.0) begins.1 are.1, tt)
open_can table p before (part number offset bytes ∷ f ∷ fs) last body are begins = absurd (part_is_last table p.layout before number offset bytes f fs last body are)

abbrev closed_or_not : Progress → Bool → Progress
closed_or_not p b = record p { is_partial = b }

pub all_can : (p : Progress) (table : ℕ) (reply : SeenReply) (message : List ℕ) → CollectReads table p.layout reply message → reply.resp ≡ 0 → Suits (question p) reply
    → CanTakeAll p reply.fragments
all_can p table reply message reads complete fits =
    let are = fragments_in table p.layout reply.resp reply.more reply.fragments reads.body complete reads.has in
    go p.is_partial are (fits complete)
  where
    go : (b : Bool) → ((last : ℕ) × AreFragments table p.layout None reply.fragments last reads.body) → BeginsAsAsked (question (closed_or_not p b)) reply.fragments
        → CanTakeAll (closed_or_not p b) reply.fragments
    go false are begins = closed_can table (closed_or_not p false) None reply.fragments are.0 reads.body refl are.1 begins
    go true are begins = open_can table (closed_or_not p true) None reply.fragments are.0 reads.body are.1 begins

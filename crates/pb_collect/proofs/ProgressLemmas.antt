-- What is asked of a table, and what is known when it is asked.
use Rattle.std.proofs.Common.{◌≡◌, ℕ, zero, suc, ◌+◌, Bool, true, false, List, [], ◌∷◌, ◌++◌, length, map, refl, sym, subst, arith}
use Rattle.std.specs.Prelude.{Option, IsTrue, ◌↔◌, not, ◌==◌, if◌then◌else◌}
use Rattle.pb_base.specs.Record.{content, content_len, cut_records}
use Rattle.pb_bmp5.specs.declared.message.Mode.{Mode}
use Rattle.pb_bmp5.specs.declared.message.Mode.TheVariants.{From, Part}
use Rattle.pb_bmp5.specs.CollectReply.{SeenFragment, whole, part, SeenReply}
use Rattle.pb_archive.specs.Archive.{front, grown}
use Rattle.pb_bmp5.specs.Asking.{asked_mode}
use Rattle.pb_truth.specs.Asked.{AsksFromAtMost}
use Rattle.pb_truth.specs.Learning.{Known, without_partial, BeginsFrom, BeginsWithPart, FitsNext, FitsKnown, joined, taken}
use Rattle.pb_truth.proofs.LearningLemmas.{front-grown, length-run}
use Rattle.pb_collect.specs.Ends.{has_part, kept_partial, asked_once_more, known_after}
use Rattle.pb_collect.specs.Inside.{first_records, FirstFrom, FirstIsPart}
use Rattle.pb_collect.specs.Progress.{Progress, IsAt, partial_bytes, taken_to, question, BeginsAsAsked, Suits, IsNextPart, CanTake, after_bytes, after}

-- ---- what comes first

pub from_first : (n : ℕ) (fs : List SeenFragment) → FirstFrom n (first_records fs) → BeginsFrom n fs
from_first n [] h = tt
from_first n (whole first zero bytes ∷ fs) h = from_first n fs h
from_first n (whole first (suc k) bytes ∷ fs) h = h
from_first n (part number offset bytes ∷ fs) h = h

pub to_first : (n : ℕ) (fs : List SeenFragment) → BeginsFrom n fs → FirstFrom n (first_records fs)
to_first n [] h = tt
to_first n (whole first zero bytes ∷ fs) h = to_first n fs h
to_first n (whole first (suc k) bytes ∷ fs) h = h
to_first n (part number offset bytes ∷ fs) h = h

pub from_part : (n from : ℕ) (fs : List SeenFragment) → FirstIsPart n from (first_records fs) → BeginsWithPart n from fs
from_part n from [] h = tt
from_part n from (whole first zero bytes ∷ fs) h = from_part n from fs h
from_part n from (whole first (suc k) bytes ∷ fs) h = h
from_part n from (part number offset bytes ∷ fs) h = h

pub to_part : (n from : ℕ) (fs : List SeenFragment) → BeginsWithPart n from fs → FirstIsPart n from (first_records fs)
to_part n from [] h = tt
to_part n from (whole first zero bytes ∷ fs) h = to_part n from fs h
to_part n from (whole first (suc k) bytes ∷ fs) h = h
to_part n from (part number offset bytes ∷ fs) h = h

-- a part from the first byte on is one of a record from its number on
part_begins : (n : ℕ) (fs : List SeenFragment) → BeginsWithPart n 0 fs → BeginsFrom n fs
part_begins n [] h = tt
part_begins n (whole first zero bytes ∷ fs) h = part_begins n fs h
part_begins n (whole first (suc k) bytes ∷ fs) h = absurd h
part_begins n (part number offset bytes ∷ fs) h = (omega (arith, h.0), h.1)

-- ---- what is asked

fits_partial : (n : ℕ) (have : List ℕ) (fs : List SeenFragment) → BeginsWithPart n (length have) fs → FitsNext n have fs
fits_partial n [] fs h = part_begins n fs h
fits_partial n (b ∷ bs) fs h = h

fits_asked : (n : ℕ) (is_partial : Bool) (joined : List ℕ) (fs : List SeenFragment) → BeginsAsAsked (if is_partial then Part n (length joined) else From n) fs
    → FitsNext n (if is_partial then joined else []) fs
fits_asked n true joined fs h = fits_partial n joined fs h
fits_asked n false joined fs h = h

pub fits_known : (p : Progress) (k : Known) (reply : SeenReply) → IsAt p k → Suits (question p) reply → reply.resp ≡ 0 → FitsKnown k reply.fragments
fits_known p k reply at fits complete =
    let here : FitsNext p.front (partial_bytes p) reply.fragments = fits_asked p.front p.is_partial p.joined reply.fragments (fits complete) in
    subst (λ have. FitsNext (front k.table) have reply.fragments) at.partial (subst (λ n. FitsNext n (partial_bytes p) reply.fragments) at.front here)

asks_low : (n high : ℕ) (is_partial : Bool) (have : ℕ) → n ≡ high → AsksFromAtMost high (asked_mode (if is_partial then Part n have else From n))
asks_low n high true have same = omega (arith, same)
asks_low n high false have same = omega (arith, same)

pub question_low : (p : Progress) (k : Known) → IsAt p k → AsksFromAtMost (front k.table) (asked_mode (question p))
question_low p k at = asks_low p.front (front k.table) p.is_partial (length p.joined) at.front

-- ---- what is known then

abbrev given_up : Progress → Progress
given_up p = record p { is_partial = false }

at_next : (b : Bool) (p : Progress) (k : Known) → IsAt p k → IsAt (asked_once_more (if b then p else given_up p)) (if b then k else without_partial k.table)
at_next true p k at = record { layout = at.layout; front = at.front; partial = at.partial }
at_next false p k at = record { layout = at.layout; front = at.front; partial = refl }

pub known_next : (p : Progress) (k : Known) → IsAt p k → IsAt (asked_once_more (kept_partial p)) (known_after p k)
known_next p k at = at_next (has_part p) p k at

run_known : (p : Progress) (k : Known) (first count : ℕ) (bytes : List ℕ) → CanTake p (whole first count bytes) → IsAt p k → IsAt (after p (whole first count bytes)) (taken p.layout k (whole first count bytes))
run_known p k first zero bytes can at = at
run_known p k first (suc n) bytes can at =
    let cs = map content (cut_records p.layout (suc n) bytes) in
    record {
      layout = at.layout;
      front = omega (arith, front-grown first cs k.table (omega (arith, can.low, at.front)), length-run p.layout (suc n) bytes);
      partial = refl;
    }

part_known : (p : Progress) (k : Known) (number offset : ℕ) (bytes : List ℕ) → IsNextPart p number offset bytes → IsAt p k → IsAt (after p (part number offset bytes)) (taken p.layout k (part number offset bytes))
part_known p k number offset bytes can at =
    subst (λ have. IsAt (after_bytes p number (partial_bytes p ++ bytes)) (joined p.layout number (have ++ bytes) k.table)) at.partial
    (cases (length (partial_bytes p ++ bytes) == content_len p.layout))
  where
    cases : (b : Bool) → IsAt (taken_to p (if b then number + 1 else number) (not b) (partial_bytes p ++ bytes))
        (if b then without_partial (grown number ((partial_bytes p ++ bytes) ∷ []) k.table) else record { table = grown number [] k.table; partial = partial_bytes p ++ bytes })
    cases true = record {
      layout = at.layout;
      front = omega (arith, front-grown number ((partial_bytes p ++ bytes) ∷ []) k.table (omega (arith, can.low, at.front)));
      partial = refl;
    }
    cases false = record {
      layout = at.layout;
      front = omega (arith, front-grown number [] k.table (omega (arith, can.low, at.front)));
      partial = refl;
    }

-- what is known after a fragment
pub known_taken : (p : Progress) (k : Known) (f : SeenFragment) → CanTake p f → IsAt p k → IsAt (after p f) (taken p.layout k f)
known_taken p k (whole first count bytes) can at = run_known p k first count bytes can at
known_taken p k (part number offset bytes) can at = part_known p k number offset bytes can at

-- ---- whether a reply fits, by what comes first

pub from_fits : (mode : Mode) (n : ℕ) (reply : SeenReply) (first : Option SeenFragment) (r : Bool) → mode ≡ From n → first ≡ first_records reply.fragments → reply.resp ≡ 0 → IsTrue r ↔ FirstFrom n first
    → IsTrue r ↔ Suits mode reply
from_fits mode n reply first r is same complete iff = (
  λ t e. subst (λ m. BeginsAsAsked m reply.fragments) (sym is) (from_first n reply.fragments (subst (λ f. FirstFrom n f) same (iff.0 t))),
  λ fits. iff.1 (subst (λ f. FirstFrom n f) (sym same) (to_first n reply.fragments (subst (λ m. BeginsAsAsked m reply.fragments) is (fits complete)))),
)

pub part_fits : (mode : Mode) (n from : ℕ) (reply : SeenReply) (first : Option SeenFragment) (r : Bool) → mode ≡ Part n from → first ≡ first_records reply.fragments → reply.resp ≡ 0 → IsTrue r ↔ FirstIsPart n from first
    → IsTrue r ↔ Suits mode reply
part_fits mode n from reply first r is same complete iff = (
  λ t e. subst (λ m. BeginsAsAsked m reply.fragments) (sym is) (from_part n from reply.fragments (subst (λ f. FirstIsPart n from f) same (iff.0 t))),
  λ fits. iff.1 (subst (λ f. FirstIsPart n from f) (sym same) (to_part n from reply.fragments (subst (λ m. BeginsAsAsked m reply.fragments) is (fits complete)))),
)

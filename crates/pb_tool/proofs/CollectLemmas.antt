-- The lines of a round, one after another.
use Rattle.std.proofs.Common.{◌≡◌, inl, inr, ℕ, zero, suc, ◌+◌, ◌<◌, ◌≤◌, List, [], ◌∷◌, ◌++◌, length, get_or, take, Some, refl, sym, ap, ◌∙◌, subst, append_assoc, append-nil, arith}
use Rattle.std.specs.Prelude.{slice_get}
use Rattle.std.proofs.lemmas.Option.{none-some, same_Some}
use Rattle.std.proofs.lemmas.List.{take_all}
use Rattle.pb_archive.specs.Plan.{Plan}
use Rattle.pb_archive.specs.declared.held.Held.{Held}
use Rattle.pb_collect.specs.Complete.{Completes}
use Rattle.pb_collect.specs.Kept.{Keeps}
use Rattle.pb_collect.specs.Round.{AreInOrder, AsksBy, CountsOf, RoundIs}
use Rattle.pb_collect.specs.declared.collector.RoundResult.{RoundResult}
use Rattle.pb_collect.specs.declared.collector.RoundResult.TheVariants.{Done, Incomplete, DiskFault, LinkFault}
use Rattle.pb_collect.specs.declared.outcome.Outcome.{Outcome}
use Rattle.pb_io.specs.Faults.{Rose}
use Rattle.pb_io.specs.Page.{Adds, Printing, Waiting}
use Rattle.pb_io.specs.Crash.{Changes}
use Rattle.pb_io.specs.View.{View, Link, IsLawful}
use Rattle.pb_journal.specs.Changes.{SameEntries}
use Rattle.pb_archive.specs.Opened.{Register}
use Rattle.pb_collect.proofs.KeptLemmas.{honest_first, honest_then}
use Rattle.pb_io.proofs.PageLemmas.{Adds-two}
use Rattle.pb_tool.specs.Causes.{Counts}
use Rattle.pb_tool.specs.Closing.{Finished}
use Rattle.pb_tool.specs.Collect.{Came, Round, limits_of, line_text, report_text, round_status}
use Rattle.pb_tool.specs.declared.status.Status.{Status}
use Rattle.pb_tool.specs.declared.status.Status.TheVariants as status
use Rattle.pb_tool.specs.declared.status.Status.TheVariants.{WriteFault}
use Rattle.pb_tool.proofs.CheckLemmas.{there}

-- ---- places

get_item : {A : Type 0} (xs : List A) (n : ℕ) (d : A) → n < length xs → slice_get xs n ≡ Some (get_or xs n d)
get_item [] n d below = absurd (omega (arith, below))
get_item (x ∷ xs) zero d below = refl
get_item (x ∷ xs) (suc n) d below = get_item xs n d (omega (arith, below))

-- each outcome is that of the table at its place
order_at : (os : List Outcome) (k n : ℕ) (o : Outcome) → AreInOrder k os → slice_get os n ≡ Some o → o.table.0 ≡ k + n
order_at [] k n o order is = absurd (none-some o is)
order_at (x ∷ os) k zero o order is = omega (arith, order.0, ap (λ (y : Outcome). y.table.0) (same_Some x o is))
order_at (x ∷ os) k (suc n) o order is = omega (arith, order_at os (suc k) n o order.1 is)

-- ---- lines

take_suc : {A : Type 0} (x : A) (xs : List A) (n : ℕ) → take (suc n + 1) (x ∷ xs) ≡ x ∷ take (n + 1) xs
take_suc x xs n = let same : suc n + 1 ≡ suc (n + 1) = omega arith in ap (λ k. take k (x ∷ xs)) same

report_next : (plan : Plan) (ts : List Held) (os : List Outcome) (n : ℕ) (t : Held) (o : Outcome) → slice_get ts n ≡ Some t → slice_get os n ≡ Some o
    → report_text plan (take (n + 1) ts) (take (n + 1) os) ≡ report_text plan (take n ts) (take n os) ++ line_text plan t o
report_next plan [] os n t o is at = absurd (none-some t is)
report_next plan (x ∷ ts) [] n t o is at = absurd (none-some o at)
report_next plan (x ∷ ts) (y ∷ os) zero t o is at =
    append-nil (line_text plan x y) ∙ ap (λ (h : Held). line_text plan h y) (same_Some x t is) ∙ ap (λ (z : Outcome). line_text plan t z) (same_Some y o at)
report_next plan (x ∷ ts) (y ∷ os) (suc n) t o is at =
    ap (λ (l : List Held). report_text plan l (take (suc n + 1) (y ∷ os))) (take_suc x ts n) ∙ ap (λ (l : List Outcome). report_text plan (x ∷ take (n + 1) ts) l) (take_suc y os n)
    ∙ ap (λ l. line_text plan x y ++ l) (report_next plan ts os n t o is at) ∙ sym (append_assoc (line_text plan x y) (report_text plan (take n ts) (take n os)) (line_text plan t o))

report_fewer : (plan : Plan) (ts : List Held) (os : List Outcome) (n : ℕ) → length os ≤ n → report_text plan (take n ts) os ≡ report_text plan ts os
report_fewer plan [] os zero few = refl
report_fewer plan [] os (suc n) few = refl
report_fewer plan (x ∷ ts) [] zero few = refl
report_fewer plan (x ∷ ts) [] (suc n) few = refl
report_fewer plan (x ∷ ts) (y ∷ os) zero few = absurd (omega (arith, few))
report_fewer plan (x ∷ ts) (y ∷ os) (suc n) few = ap (λ l. line_text plan x y ++ l) (report_fewer plan ts os n (omega (arith, few)))

pub report_all : (plan : Plan) (ts : List Held) (os : List Outcome) (n : ℕ) → length os ≤ n → report_text plan (take n ts) (take n os) ≡ report_text plan ts os
report_all plan ts os n few = ap (λ (l : List Outcome). report_text plan (take n ts) l) (take_all n os few) ∙ report_fewer plan ts os n few

-- the outcome at this place is that of a table
pub outcome_below : (os : List Outcome) (n tables : ℕ) (d : Outcome) → AreInOrder 0 os → length os ≤ tables → n < length os → (get_or os n d).table.0 < tables
outcome_below os n tables d order few below = omega (arith, order_at os 0 n (get_or os n d) order (get_item os n d below), few, below)

-- one line more
pub report_more : (plan : Plan) (ts : List Held) (os : List Outcome) (n : ℕ) (d : Outcome) (a b c : Printing) → AreInOrder 0 os → length os ≤ length ts → n < length os
    → Adds (report_text plan (take n ts) (take n os)) a b
    → ((t : Held) → slice_get ts (get_or os n d).table.0 ≡ Some t → Adds (line_text plan t (get_or os n d)) b c)
    → Adds (report_text plan (take (n + 1) ts) (take (n + 1) os)) a c
report_more plan ts os n d a b c order few below before line =
    let o = get_or os n d in
    let at = get_item os n d below in
    let place : o.table.0 ≡ n = omega (arith, order_at os 0 n o order at) in
    let t = there ts n (omega (arith, few, below)) in
    Adds-two _ _ _ a b c (sym (report_next plan ts os n t.0 o t.1 at)) before (line t.0 (ap (λ k. slice_get ts k) place ∙ t.1))

-- ---- rounds

-- no more tables ended than there are
pub ended_within : (result : RoundResult) (os : List Outcome) (tables : ℕ) → RoundIs result os tables → length os ≤ tables
ended_within Done os tables is = omega (arith, is.0)
ended_within Incomplete os tables is = omega (arith, is.0)
ended_within DiskFault os tables is = omega (arith, is)
ended_within LinkFault os tables is = omega (arith, is)

-- an opening leaves the link
pub came_after : (budget : ℕ) (r : Round) (old mid new : View) → mid.link ≡ old.link → Came budget r mid new → Came budget r old new
came_after budget r old mid new link came = record {
  result = came.result;
  order = came.order;
  reaches = came.reaches;
  asks = subst (λ (k : Link). AsksBy r.result (limits_of budget) r.before r.outcomes k new.link) link came.asks;
  fronts = came.fronts;
}

-- an opening of a known file leaves a round as undisturbed as it is
pub complete_after : (result : RoundResult) (budget : ℕ) (r : Register) (os : List Outcome) (old mid new : View) → IsLawful mid → mid.link ≡ old.link → Changes SameEntries old.file mid.file
    → old.faults ≤ mid.faults → Keeps old mid → Keeps mid new → Completes result budget r os mid new → Completes result budget r os old new
complete_after result budget r os old mid new lawful link same later opened keeps complete = λ first last u.
    let file = same.on u.file u.known in
    complete first last (record {
      before = ap (λ (k : Link). k.world) link ∙ u.before;
      after = u.after;
      file = file.0;
      known = file.1;
      undisturbed = u.undisturbed;
      good = (opened.good u.good (honest_first old mid new keeps.grows u.honest)).here;
      honest = honest_then old mid new lawful keeps.grows opened.leaves u.honest;
      no_disk_fault = λ rose. u.no_disk_fault (omega (arith, rose, later));
      no_link_fault = λ rose. u.no_link_fault (omega (arith, rose, ap (λ (k : Link). k.faults) link));
      can = u.can;
    })

-- ---- counts

-- one count, by what a round says of it
rose_by : (own result : Status) (before now : ℕ) (p : Waiting) → before ≤ now → Rose before now → Finished own result p → Counts own result before now
rose_by own result before now p later rose finished = record {
  later = later;
  cause = λ is. rose;
  tells = λ up. elim finished [ inl done ↦ inl done.0 | inr failed ↦ inr failed.0 ];
}

stays_by : (own status result : Status) (before now : ℕ) (p : Waiting) → now ≡ before → (status ≡ own → ⊥) → (own ≡ WriteFault → ⊥) → Finished status result p → Counts own result before now
stays_by own status result before now p same other write finished = record {
  later = omega (arith, same);
  cause = λ is. elim finished [ inl done ↦ absurd (other (sym done.0 ∙ is)) | inr failed ↦ absurd (write (sym is ∙ failed.0)) ];
  tells = λ up. absurd (omega (arith, same, up));
}

pub disk_counts : (round : RoundResult) (result : Status) (old new : View) (p : Waiting) → CountsOf round old new → Finished (round_status round) result p → Counts status.DiskFault result old.faults new.faults
disk_counts Done result old new p counts finished = stays_by status.DiskFault status.Done result _ _ p (counts.disk_kept (λ is. absurd (cc is))) (λ is. absurd (cc is)) (λ is. absurd (cc is)) finished
disk_counts Incomplete result old new p counts finished = stays_by status.DiskFault status.Incomplete result _ _ p (counts.disk_kept (λ is. absurd (cc is))) (λ is. absurd (cc is)) (λ is. absurd (cc is)) finished
disk_counts DiskFault result old new p counts finished = rose_by status.DiskFault result _ _ p counts.disk_later (counts.disk_rose refl) finished
disk_counts LinkFault result old new p counts finished = stays_by status.DiskFault status.LinkFault result _ _ p (counts.disk_kept (λ is. absurd (cc is))) (λ is. absurd (cc is)) (λ is. absurd (cc is)) finished

pub link_counts : (round : RoundResult) (result : Status) (old new : View) (p : Waiting) → CountsOf round old new → Finished (round_status round) result p → Counts status.LinkFault result old.link.faults new.link.faults
link_counts Done result old new p counts finished = stays_by status.LinkFault status.Done result _ _ p (counts.link_kept (λ is. absurd (cc is))) (λ is. absurd (cc is)) (λ is. absurd (cc is)) finished
link_counts Incomplete result old new p counts finished = stays_by status.LinkFault status.Incomplete result _ _ p (counts.link_kept (λ is. absurd (cc is))) (λ is. absurd (cc is)) (λ is. absurd (cc is)) finished
link_counts DiskFault result old new p counts finished = stays_by status.LinkFault status.DiskFault result _ _ p (counts.link_kept (λ is. absurd (cc is))) (λ is. absurd (cc is)) (λ is. absurd (cc is)) finished
link_counts LinkFault result old new p counts finished = rose_by status.LinkFault result _ _ p counts.link_later (counts.link_rose refl) finished

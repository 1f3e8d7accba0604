-- Every pair that a crash leaves stays good from call to call.
use Rattle.std.proofs.Common.{List, ℕ, subst, sym}
use Rattle.pb_base.specs.World.{World}
use Rattle.pb_io.specs.View.{View, IsLawful, LeavesOnly}
use Rattle.pb_io.specs.Settled.{LeftBy}
use Rattle.pb_io.proofs.Moments.{started, LeavesOnly-trans, LeavesOnly-weaker}
use Rattle.pb_archive.specs.Entry.{Change}
use Rattle.pb_archive.specs.Held.{KeepsOrMakes, Writes}
use Rattle.pb_truth.specs.Image.{Good}
use Rattle.pb_truth.specs.Pairs.{AreGood, AreGoodSince, AsksAllowed, StaysTrueIn}
use Rattle.pb_truth.proofs.PairLemmas.{OneList, OneArchive, TakesNothingBack, good_asked, good_changed}

pub good_start : (now : View) → IsLawful now → AreGood now → AreGoodSince now now
good_start now lawful good = record { leaves = started now Good lawful good; here = good }

pub good_then : (a b c : View) → AreGoodSince a b → AreGoodSince b c → AreGoodSince a c
good_then a b c p q = record {
  leaves = LeavesOnly-trans a b c Good Good Good p.leaves q.leaves (λ w image good. good) (λ w image good. good);
  here = q.here;
}

-- what is left since a moment counts the pairs of now
pub good_left : (old new : View) (P : World → List ℕ → Type 0) → IsLawful new → LeavesOnly old new P → ((w : World) (image : List ℕ) → P w image → Good w image) → AreGoodSince old new
good_left old new P lawful leaves good = record {
  leaves = LeavesOnly-weaker old new P Good leaves good;
  here = λ w image world is. good w image (leaves.each w image (lawful.counts_now old.moment w image leaves.later world is));
}

pub good_asks : (old new : View) → IsLawful new → AreGood old → LeavesOnly old new (AsksAllowed old) → AreGoodSince old new
good_asks old new lawful here leaves = good_left old new (AsksAllowed old) lawful leaves (λ w image asks.
    subst (λ x. Good x image) (sym asks.is) (good_asked asks.before asks.more image (here asks.before image asks.known asks.was) asks.allowed))

pub good_writes : OneList → OneArchive → TakesNothingBack → (change : Change) (old new : View) → IsLawful new → AreGood old → StaysTrueIn old change → Writes change old new → AreGoodSince old new
good_writes one_list one_archive extends change old new lawful here stays writes =
    good_left old new (LeftBy (KeepsOrMakes change) old) lawful writes.leaves
    (λ w image left. good_changed one_list one_archive extends w left.1.0 image change (here w left.1.0 left.0 left.1.1) (λ a has. stays w left.1.0 a left.0 left.1.1 has) left.1.2)

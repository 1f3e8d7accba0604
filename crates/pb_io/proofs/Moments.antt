-- How what a crash may leave goes on from call to call.
use Rattle.std.proofs.Common.{◌≡◌, Some, inl, inr, ⊎_elim, ℕ, ◌≤◌, List, length, arith}
use Rattle.pb_base.specs.World.{World}
use Rattle.pb_io.specs.Crash.{max_file_len}
use Rattle.pb_io.specs.View.{View, IsLawful, Elapses, LeavesOnly}

-- each pair of this moment has P
abbrev pub Now : View → (World → List ℕ → Type 0) → Type 0
Now d P = (w : World) (c : List ℕ) → d.link.world ≡ Some w → d.image c → P w c

-- a known file isn't longer than a file can be
pub file-short : (d : View) (f : List ℕ) → IsLawful d → d.file ≡ Some f → length f ≤ max_file_len
file-short d f lawful is = lawful.short f (lawful.reads f is)

-- before the first call
pub started : (d : View) (P : World → List ℕ → Type 0) → IsLawful d → Now d P → LeavesOnly d d P
started d P lawful here = record {
  later = omega arith;
  each = λ w c left. let now = lawful.only_now w c left in here w c now.0 now.1;
  before = λ t w c le left. inl left;
}

-- one call more, after which each pair has P
pub goes_on : (old mid new : View) (P : World → List ℕ → Type 0) → LeavesOnly old mid P → Elapses mid new → Now new P → LeavesOnly old new P
goes_on old mid new P so_far time here = record {
  later = omega (arith, so_far.later, time.later);
  each = λ w c left. ⊎_elim (so_far.each w c) (λ (is, image). here w c is image) (time.nothing_else old.moment w c so_far.later left);
  before = λ t w c le left. ⊎_elim (so_far.before t w c le) (λ (is, image). inr (here w c is image)) (time.nothing_else t w c (omega (arith, le, so_far.later)) left);
}

-- one run of calls after another
pub LeavesOnly-trans : (old mid new : View) (P Q R : World → List ℕ → Type 0) → LeavesOnly old mid P → LeavesOnly mid new Q
    → ((w : World) (c : List ℕ) → P w c → R w c) → ((w : World) (c : List ℕ) → Q w c → R w c) → LeavesOnly old new R
LeavesOnly-trans old mid new P Q R first second p q = record {
  later = omega (arith, first.later, second.later);
  each = λ w c left. ⊎_elim (λ was. p w c (first.each w c was)) (q w c) (second.before old.moment w c first.later left);
  before = λ t w c le left. ⊎_elim (λ was. ⊎_elim inl (λ has. inr (p w c has)) (first.before t w c le was)) (λ has. inr (q w c has)) (second.before t w c (omega (arith, le, first.later)) left);
}

pub LeavesOnly-weaker : (old new : View) (P Q : World → List ℕ → Type 0) → LeavesOnly old new P → ((w : World) (c : List ℕ) → P w c → Q w c) → LeavesOnly old new Q
LeavesOnly-weaker old new P Q leaves weaker = record {
  later = leaves.later;
  each = λ w c left. weaker w c (leaves.each w c left);
  before = λ t w c le left. ⊎_elim inl (λ has. inr (weaker w c has)) (leaves.before t w c le left);
}

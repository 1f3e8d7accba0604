-- How runs of disk calls follow one another, and what a crash leaves of them.
use Rattle.std.proofs.Common.{◌≡◌, ℕ, ◌≤◌, List, Some, refl, sym, ◌∙◌, ap, arith}
use Rattle.pb_io.proofs.Moments.{started, goes_on, LeavesOnly-trans, LeavesOnly-weaker}
use Rattle.pb_io.specs.Crash.{AriseBy, Within}
use Rattle.pb_io.specs.Settled.{LeftBy, Runs}
use Rattle.pb_io.specs.View.{View, Link, IsLawful, Elapses}

-- the world that a disk call leaves, and the one that it found
pub same_world : (old new : View) (w : _) → new.link ≡ old.link → old.link.world ≡ Some w → new.link.world ≡ Some w
same_world old new w link is = ap (λ (l : Link). l.world) link ∙ is

pub world_before : (old new : View) (w : _) → new.link ≡ old.link → new.link.world ≡ Some w → old.link.world ≡ Some w
world_before old new w link is = ap (λ (l : Link). l.world) (sym link) ∙ is

module _ (step : List ℕ → List ℕ → Type 0) where
  -- no call
  pub Runs-none : (d : View) → IsLawful d → ((c : List ℕ) → step c c) → Runs step d d
  Runs-none d lawful same = record {
    images = λ c is. (c, is, same c);
    leaves = started d (LeftBy step d) lawful (λ w c is image. (is, (c, image, same c)));
    link = refl;
    later = omega arith;
  }

  -- one call
  pub Runs-one : (old new : View) → IsLawful old → ((c : List ℕ) → step c c) → AriseBy step old.image new.image → new.link ≡ old.link → Elapses old new → old.faults ≤ new.faults → Runs step old new
  Runs-one old new lawful same follows link time later = record {
    images = follows;
    leaves = goes_on old old new (LeftBy step old) (started old (LeftBy step old) lawful (λ w c is image. (is, (c, image, same c)))) time
        (λ w c is image. (world_before old new w link is, follows c image));
    link = link;
    later = later;
  }

  -- one run after another
  pub Runs-trans : ((x y z : List ℕ) → step x y → step y z → step x z) → (old mid new : View) → Runs step old mid → Runs step mid new → Runs step old new
  Runs-trans trans old mid new first second =
      let back = λ (c : List ℕ) (m : (d : List ℕ) × mid.image d × step d c). let o = first.images m.0 m.1 in let r : (d : List ℕ) × old.image d × step d c = (o.0, o.1, trans o.0 m.0 c o.2 m.2) in r in
      record {
        images = λ c is. back c (second.images c is);
        leaves = LeavesOnly-trans old mid new (LeftBy step old) (LeftBy step mid) (LeftBy step old) first.leaves second.leaves (λ w c p. p) (λ w c p. (world_before old mid w first.link p.0, back c p.1));
        link = second.link ∙ first.link;
        later = omega (arith, first.later, second.later);
      }

  -- a weaker step
  pub Runs-weaker : (weaker : List ℕ → List ℕ → Type 0) (old new : View) → ((d c : List ℕ) → old.image d → step d c → weaker d c) → Runs step old new → Runs weaker old new
  Runs-weaker weaker old new holds run =
      let on = λ (c : List ℕ) (m : (d : List ℕ) × old.image d × step d c). let r : (d : List ℕ) × old.image d × weaker d c = (m.0, m.1, holds m.0 c m.1 m.2) in r in
      record {
        images = λ c is. on c (run.images c is);
        leaves = LeavesOnly-weaker old new (LeftBy step old) (LeftBy weaker old) run.leaves (λ w c p. (p.0, on c p.1));
        link = run.link;
        later = run.later;
      }

-- a sync, also one that fails
pub Runs-sync : (step : List ℕ → List ℕ → Type 0) (old new : View) → IsLawful old → ((c : List ℕ) → step c c) → Within old.image new.image → new.link ≡ old.link → Elapses old new → old.faults ≤ new.faults → Runs step old new
Runs-sync step old new lawful same within link time later = Runs-one step old new lawful same (λ c is. (c, within c is, same c)) link time later

-- The forms of an advance.
use Rattle.std.proofs.Common.{◌≡◌, ℕ, ◌-◌, ◌<◌, sym, subst, arith, w32}
use Rattle.std.specs.Int.RustNames.{FitsSigned}
use Rattle.pb_base.specs.declared.nsec.Nsec.{Nsec}
use Rattle.pb_base.specs.Time.{HasLater}
use Rattle.pb_base.proofs.TimeLemmas.{earlier_too}

-- where the last of some times is there, all are
pub all_times : (t first i : Nsec) (count last : ℕ) (P : Type 0) → t ≡ first → FitsSigned w32 t.sec → last ≡ count - 1 → 0 < count
    → (P → HasLater t i last) × (HasLater t i last → P) → (P → (k : ℕ) → k < count → HasLater first i k) × (((k : ℕ) → k < count → HasLater first i k) → P)
all_times t first i count last P e fits is some has = (
  λ p k lt. subst (λ (x : Nsec). HasLater x i k) e (earlier_too t i k last fits (omega arith) (has.0 p)),
  λ all. has.1 (subst (λ (x : Nsec). HasLater x i last) (sym e) (all last (omega arith))),
)

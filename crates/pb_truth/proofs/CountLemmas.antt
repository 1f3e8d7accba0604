-- The count of a table's requests, by what each answer does to its front.
use Rattle.std.proofs.Common.{◌≡◌, ℕ, suc, ◌+◌, ◌-◌, ◌*◌, ◌<◌, ◌≤◌, ap, arith}
use Rattle.std.proofs.Math.Nat.{mul-le-mul_right}
use Rattle.pb_base.specs.declared.layout.Layout.{Layout}
use Rattle.pb_base.specs.Record.{content_len}
use Rattle.pb_truth.specs.Bound.{parts_max}

-- no record is partial; one is, with so many bytes; one was, and was overwritten
pub data Phase : Type 0 where
  Closed : Phase
  Partial : (have : ℕ) → Phase
  Lost : Phase

-- What an answer does to a front f, with which the phase changes: the new front is g.
abbrev pub Answered : (base size f : ℕ) → Phase → (g : ℕ) → Phase → Type 0
Answered base size f Closed g Closed = (f < g) × (base < g)
Answered base size f Closed g (Partial have) = (f ≤ g) × (base ≤ g) × (256 ≤ have) × (have < size)
Answered base size f Closed g Lost = ⊥
Answered base size f (Partial have) g Closed = f < g
Answered base size f (Partial have) g (Partial more) = (f ≡ g) × (have + 256 ≤ more) × (more < size)
Answered base size f (Partial have) g Lost = f ≡ g
Answered base size f Lost g Closed = f < g
Answered base size f Lost g (Partial have) = (f < g) × (256 ≤ have) × (have < size)
Answered base size f Lost g Lost = ⊥

-- So many requests were answered, where a content has at most q parts: for each record above the base q and one more, and
-- those for the parts of the partial record.
abbrev pub Spent : (base q f : ℕ) → Phase → (asked : ℕ) → Type 0
Spent base q f Closed asked = asked ≤ (f - base) * (q + 1)
Spent base q f (Partial have) asked =
    (base ≤ f) × ((j : ℕ) × (asked ≤ (f - base) * (q + 1) + j) × (j * 256 ≤ have))
Spent base q f Lost asked = (base ≤ f) × (asked ≤ (f - base) * (q + 1) + q)

abbrev pub IsBelow : (size : ℕ) → Phase → Type 0
IsBelow size Closed = Unit {0}
IsBelow size (Partial have) = have < size
IsBelow size Lost = Unit {0}

-- the record that is or was partial is below this number
abbrev pub Reaches : (f s : ℕ) → Phase → Type 0
Reaches f s Closed = f ≤ s
Reaches f s (Partial have) = f < s
Reaches f s Lost = f < s

more_times : (x y n : ℕ) → x < y → x * n + n ≤ y * n
more_times x y n less = let h = mul-le-mul_right {m = x + 1} {n = y} n (omega (arith, less)) in omega (arith, h, split x n)
  where
    split : (x n : ℕ) → (x + 1) * n ≡ x * n + n
    split x n = grind arith

as_many : (x y n : ℕ) → x ≤ y → x * n ≤ y * n
as_many x y n le = mul-le-mul_right n le

-- j parts of 256 bytes and something more are at most q parts
fewer : (j q have size : ℕ) → size ≤ q * 256 → have < size → j * 256 ≤ have → j + 1 ≤ q
fewer j q have size long less so = omega (arith, long, less, so)

pub spent_more : (base size q f g asked : ℕ) (p r : Phase) → size ≤ q * 256 → 0 < q → Answered base size f p g r → IsBelow size p → Spent base q f p asked
    → Spent base q g r (suc asked)
spent_more base size q f g asked Closed Closed long some step ok spent =
    omega (arith, spent, more_times (f - base) (g - base) (q + 1) (omega (arith, step.0, step.1)))
spent_more base size q f g asked Closed (Partial have) long some step ok spent =
    (step.1, (1, omega (arith, spent, as_many (f - base) (g - base) (q + 1) (omega (arith, step.0))), omega (arith, step.2)))
spent_more base size q f g asked Closed Lost long some step ok spent = absurd step
spent_more base size q f g asked (Partial have) Closed long some step ok spent =
    omega (arith, (spent.1).1, fewer (spent.1).0 q have size long ok (spent.1).2, more_times (f - base) (g - base) (q + 1) (omega (arith, step, spent.0)))
spent_more base size q f g asked (Partial have) (Partial more) long some step ok spent = (
  omega (arith, spent.0, step.0),
  ((spent.1).0 + 1, omega (arith, (spent.1).1, ap (λ n. (n - base) * (q + 1)) step.0), omega (arith, (spent.1).2, step.1)),
)
spent_more base size q f g asked (Partial have) Lost long some step ok spent = (
  omega (arith, spent.0, step),
  omega (arith, (spent.1).1, fewer (spent.1).0 q have size long ok (spent.1).2, ap (λ n. (n - base) * (q + 1)) step),
)
spent_more base size q f g asked Lost Closed long some step ok spent =
    omega (arith, spent.1, more_times (f - base) (g - base) (q + 1) (omega (arith, step, spent.0)))
spent_more base size q f g asked Lost (Partial have) long some step ok spent = (
  omega (arith, step.0, spent.0),
  (1, omega (arith, spent.1, more_times (f - base) (g - base) (q + 1) (omega (arith, step.0, spent.0))), omega (arith, step.1)),
)
spent_more base size q f g asked Lost Lost long some step ok spent = absurd step

-- with the last request, whose answer reaches s
pub asked_at_most : (base size q f s asked : ℕ) (p : Phase) → size ≤ q * 256 → 0 < q → IsBelow size p → Spent base q f p asked → Reaches f s p
    → suc asked ≤ 1 + (s - base) * (q + 1)
asked_at_most base size q f s asked Closed long some ok spent reaches =
    omega (arith, spent, as_many (f - base) (s - base) (q + 1) (omega (arith, reaches)))
asked_at_most base size q f s asked (Partial have) long some ok spent reaches =
    omega (arith, (spent.1).1, fewer (spent.1).0 q have size long ok (spent.1).2, more_times (f - base) (s - base) (q + 1) (omega (arith, reaches, spent.0)))
asked_at_most base size q f s asked Lost long some ok spent reaches =
    omega (arith, spent.1, more_times (f - base) (s - base) (q + 1) (omega (arith, reaches, spent.0)))

pub parts-enough : (layout : Layout) → content_len layout ≤ parts_max layout * 256
parts-enough layout = omega arith

pub parts-some : (layout : Layout) → 0 < parts_max layout
parts-some layout = omega arith

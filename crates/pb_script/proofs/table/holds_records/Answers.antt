use Rattle.std.proofs.Common.{arith, ◌≤◌, ◌<◌, ◌*◌, ◌^◌, ℕ}
use Rattle.std.proofs.Math.Nat.{mul-le-mul_right}
use Rattle.pb_script.proofs.table.holds_records.Goals as goal

small : (a b : ℕ) → a ≤ 1000000 → b < 2 ^ 32 → a * b < 2 ^ 63
small a b few low = omega (arith, mul-le-mul_right b few)

pub overflow_mul-result : goal.overflow_mul-result
overflow_mul-result c =
    let few : c.from-last.result ≤ 1000000 = omega arith in
    omega (arith, small c.from-last.result c.step.result few c.step.ensures.within)

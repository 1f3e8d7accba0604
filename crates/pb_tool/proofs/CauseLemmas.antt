-- Counts of faults that stand still.
use Rattle.std.proofs.Common.{◌≡◌, ◌≢◌, ℕ, arith}
use Rattle.pb_tool.specs.declared.status.Status.{Status}
use Rattle.pb_tool.specs.Causes.{Counts}

-- a count that stood still, where its status doesn't come
pub still : {own result : Status} {before now : ℕ} → now ≡ before → result ≢ own → Counts own result before now
still {own} {result} {before} {now} same other = record { later = omega arith; cause = λ is. absurd (other is); tells = λ rose. absurd (omega arith) }

use Rattle.std.proofs.Common.{ℕ, ◌≤◌, length, inl, inr, arith}
use Rattle.pb_frame.specs.Signature.{start, sig, null}
use Rattle.pb_frame.specs.Framing.{IsContentSize}
use Rattle.pb_frame.proofs.QuotedLemmas.{length-frame, length-quoted}
use Rattle.pb_frame.proofs.laws.law_limits.Goals as goal

size_max : (n : ℕ) → IsContentSize n → n ≤ 1008
size_max n (inl is) = omega (arith, is)
size_max n (inr within) = within.1

pub returns-clause-enough : goal.returns-clause-enough
returns-clause-enough c content size =
    omega (arith, length-frame content, (length-quoted content).1, (length-quoted (null (sig content start))).1, size_max (length content) size)

use Rattle.std.proofs.Common.{◌≡◌, ◌+◌, ◌*◌, take}
use Rattle.pb_frame.specs.Signature.{sig}
use Rattle.pb_frame.proofs.signing.Signer.steps.Given as goal

abbrev pub invariant-loop-byte : goal.invariant-loop-byte
invariant-loop-byte l = 256 * l.sum.high + l.sum.low ≡ sig (take l.byte-index l.bytes) (256 * l.fn.self.high + l.fn.self.low)

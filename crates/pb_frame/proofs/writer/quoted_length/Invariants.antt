use Rattle.std.proofs.Common.{◌≡◌, length, take}
use Rattle.pb_frame.specs.Framing.{quoted}
use Rattle.pb_frame.proofs.writer.quoted_length.Given as goal

abbrev pub invariant-loop-byte : goal.invariant-loop-byte
invariant-loop-byte l = l.n ≡ length (quoted (take l.byte-index l.body))

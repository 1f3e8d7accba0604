use Rattle.std.proofs.Common.{◌≡◌, All, take, true}
use Rattle.pb_frame.specs.Framing.{IsPlain}
use Rattle.pb_frame.proofs.run.are_plain.Given as goal

abbrev pub invariant-loop-byte : goal.invariant-loop-byte
invariant-loop-byte l = l.plain ≡ true → All IsPlain (take l.byte-index l.group)

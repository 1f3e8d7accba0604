use Rattle.std.proofs.Common.{◌≡◌, ◌+◌, ◌++◌, length, take, drop}
use Rattle.pb_frame.specs.Framing.{quoted}
use Rattle.pb_frame.proofs.writer.put_quoted.Given as goal

abbrev pub invariant-loop-byte : goal.invariant-loop-byte
invariant-loop-byte l = record {
  end : l.to ≡ l.at + length (quoted (take l.byte-index l.body));
  text : l.out ≡ take l.at l.fn.out ++ quoted (take l.byte-index l.body) ++ drop l.to l.fn.out;
}

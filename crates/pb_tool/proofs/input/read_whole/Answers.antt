use Rattle.std.proofs.Common.{◌++◌, take, arith, length-append}
use Rattle.std.proofs.lemmas.List.{length-take-le}
use Rattle.std.proofs.KnownBytes.{Consumes-trans}
use Rattle.pb_tool.proofs.input.read_whole.Goals as goal

pub returns-then-n-limit-clause-refused : goal.returns-then-n-limit-clause-refused
returns-then-n-limit-clause-refused g c = record {
  bytes = c.loop-n.bytes.items ++ take c.in-Ok.n c.read.new.to;
  consumes = Consumes-trans _ _ _ c.loop-n.bytes.items (take c.in-Ok.n c.read.new.to) c.loop-n.invariant.consumes c.in-Ok.ensures.bytes.0;
  past = omega (arith, c.if-n-limit.true, c.loop-n.invariant.within, length-append c.loop-n.bytes.items (take c.in-Ok.n c.read.new.to), length-take-le c.in-Ok.n c.read.new.to (omega (arith, c.in-Ok.ensures.bound)));
}

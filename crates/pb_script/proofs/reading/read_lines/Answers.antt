use Rattle.std.proofs.Common.{arith}
use Rattle.pb_script.proofs.DraftLemmas.{says_more}
use Rattle.pb_script.proofs.reading.read_lines.Goals as goal

pub loop-rest-preserved : goal.loop-rest-preserved
loop-rest-preserved c = record {
  says = λ whole says. says_more whole c.loop-rest.lines c.loop-rest.draft c.take_line.new.self c.loop-rest.rest.now c.in-Ok.rest.now (c.loop-rest.invariant.says whole says) c.in-Ok.ensures.taken;
  count = omega (arith, c.in-Ok.ensures.shorter, c.loop-rest.invariant.count);
}

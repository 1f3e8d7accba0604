use Rattle.pb_show.proofs.SpelledLemmas.{answer-zero}
use Rattle.pb_show.proofs.bmp5.push_answer.Goals as goal

pub returns-then-head-eq0 : goal.returns-then-head-eq0
returns-then-head-eq0 g c = answer-zero c.args.name.now c.args.head.0 c.args.head.1 _ _ _ _ c.if-head-eq0.true c.push_named.ensures c.push_keys.ensures

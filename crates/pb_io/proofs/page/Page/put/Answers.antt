use Rattle.pb_io.proofs.PageLemmas.{Adds-next}
use Rattle.pb_io.proofs.page.Page.put.Goals as goal

pub loop-part-preserved : goal.loop-part-preserved
loop-part-preserved g c = Adds-next c.args.parts.now c.loop-part.part-index _ _ _ _ c.loop-part-test.true c.loop-part.invariant c.push_part.ensures

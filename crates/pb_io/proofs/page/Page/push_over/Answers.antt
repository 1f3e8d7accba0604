use Rattle.std.proofs.Common.{[]}
use Rattle.pb_io.proofs.PageLemmas.{Adds-trans, Adds-gathers}
use Rattle.pb_io.proofs.page.Page.push_over.Goals as goal

pub returns-then-text-gt-PAGE : goal.returns-then-text-gt-PAGE
returns-then-text-gt-PAGE g c = Adds-trans [] c.args.text.now _ _ _ c.turn.ensures.adds c.write_through.ensures

pub returns : goal.returns
returns g c = Adds-gathers c.args.text.now _ c.turn.new.self c.gather.new.self _ c.turn.ensures.adds c.gather.ensures

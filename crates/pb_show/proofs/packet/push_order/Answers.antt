use Rattle.pb_io.proofs.PageLemmas.{Adds-as}
use Rattle.pb_show.proofs.packet.push_order.Goals as goal

pub returns : goal.returns
returns g c = Adds-as _ _ _ _ c.order.ensures c.push.ensures

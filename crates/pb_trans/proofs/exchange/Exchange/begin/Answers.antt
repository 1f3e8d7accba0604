use Rattle.pb_trans.proofs.WaitingLemmas.{begun}
use Rattle.pb_trans.proofs.exchange.Exchange.begin.Goals as goal

pub returns-clause-stands : goal.returns-clause-stands
returns-clause-stands c = begun c.args.asked c.args.limits c.from.result c.from.ensures c.requires.sends

use Rattle.pb_trans.proofs.WaitingLemmas.{heard_tick}
use Rattle.pb_trans.proofs.exchange.Exchange.quiet.Goals as goal

pub returns-clause-stands : goal.returns-clause-stands
returns-clause-stands c = λ inputs s. heard_tick c.args.self.now inputs s c.tick.new.self c.tick.result c.tick.ensures

use Rattle.pb_trans.proofs.WaitingLemmas.{heard_bytes}
use Rattle.pb_trans.proofs.exchange.Exchange.bytes.Goals as goal

pub returns-clause-stands : goal.returns-clause-stands
returns-clause-stands c = λ inputs s. heard_bytes c.args.self.now inputs s c.count.new.self c.args.n c.count.ensures

use Rattle.std.proofs.Common.{subst}
use Rattle.pb_trans.specs.Asking.{Means}
use Rattle.pb_trans.specs.Waiting.{Waiting}
use Rattle.pb_trans.proofs.WaitingLemmas.{heard_packet}
use Rattle.pb_trans.proofs.exchange.Exchange.hear.Goals as goal

pub returns-clause-means : goal.returns-clause-means
returns-clause-means c =
    subst (λ (w : Waiting). Means w.asked c.args.header.now c.args.message.now c.meaning-step.result) c.self.view_is c.meaning-step.ensures

pub returns-clause-stands : goal.returns-clause-stands
returns-clause-stands c = λ inputs s. heard_packet c.args.self.now inputs s c.heed.new.self c.args.header.now c.args.message.now c.heed.ensures.hears

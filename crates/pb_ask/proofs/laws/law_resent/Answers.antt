use Rattle.pb_ask.proofs.ListenLemmas.{sent_again}
use Rattle.pb_ask.proofs.laws.law_resent.Goals as goal

pub returns : goal.returns
returns g c = λ q limits n old events new r. sent_again (g.Q.Question.wanted q) limits n old events new r

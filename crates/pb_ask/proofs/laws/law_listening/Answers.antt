use Rattle.pb_ask.proofs.ListenLemmas.{asks_listening, stops_listening}
use Rattle.pb_ask.proofs.laws.law_listening.Goals as goal

pub returns-clause-asks : goal.returns-clause-asks
returns-clause-asks g c = λ q limits old new a b conclusion h all judged. asks_listening (g.Q.Question.wanted q) limits old new a b conclusion h all judged

pub returns-clause-stops : goal.returns-clause-stops
returns-clause-stops g c = λ q limits old new a b h all judged. stops_listening (g.Q.Question.wanted q) limits old new a b h all judged

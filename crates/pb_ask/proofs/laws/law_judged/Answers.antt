use Rattle.pb_ask.proofs.ListenLemmas.{asks_judged, asks_held, stops_judged}
use Rattle.pb_ask.proofs.laws.law_judged.Goals as goal

pub returns-clause-asks : goal.returns-clause-asks
returns-clause-asks g c = λ q limits old new a b conclusion h. asks_judged (g.Q.Question.wanted q) limits old new a b conclusion h

pub returns-clause-stops : goal.returns-clause-stops
returns-clause-stops g c = λ q limits old new a b h. stops_judged (g.Q.Question.wanted q) limits old new a b h

pub returns-clause-held : goal.returns-clause-held
returns-clause-held g c = λ q limits old new a b answer h. asks_held (g.Q.Question.wanted q) limits old new a b answer h

use Rattle.pb_ask.proofs.StreamLemmas.{asked_on, stopped_on}
use Rattle.pb_ask.proofs.laws.law_stream.Goals as goal

pub returns-clause-asks : goal.returns-clause-asks
returns-clause-asks g c = λ q limits old new a b conclusion judged stands h.
    let is = asked_on (g.Q.Question.wanted q) limits old new a b conclusion judged stands h in
    (is.judged, is.stands, is.is)

pub returns-clause-stops : goal.returns-clause-stops
returns-clause-stops g c = λ q limits old new a b judged stands h.
    let is = stopped_on (g.Q.Question.wanted q) limits old new a b judged stands h in
    (is.judged, is.stands, is.is)

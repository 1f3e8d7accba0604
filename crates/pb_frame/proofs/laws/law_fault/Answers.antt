use Rattle.pb_frame.proofs.FaultLemmas.{fault-has, fault-first}
use Rattle.pb_frame.proofs.laws.law_fault.Goals as goal

pub returns-clause-has : goal.returns-clause-has
returns-clause-has c = λ piece at why is e. fault-has piece at why is.1 e

pub returns-clause-first : goal.returns-clause-first
returns-clause-first c = fault-first

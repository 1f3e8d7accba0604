use Rattle.pb_frame.proofs.CutLemmas.{cut-whole, no_flag-head, no_flag-texts}
use Rattle.pb_frame.proofs.laws.law_cut.Goals as goal

pub returns-clause-whole : goal.returns-clause-whole
returns-clause-whole c = cut-whole

pub returns-clause-head : goal.returns-clause-head
returns-clause-head c = no_flag-head

pub returns-clause-texts : goal.returns-clause-texts
returns-clause-texts c = no_flag-texts

use Rattle.pb_frame.proofs.ReadLemmas.{good-outcome, whole-good}
use Rattle.pb_frame.proofs.laws.law_good.Goals as goal

pub returns-clause-good : goal.returns-clause-good
returns-clause-good c = λ piece good ended. good-outcome piece good.0 ended good.1

pub returns-clause-whole : goal.returns-clause-whole
returns-clause-whole c = λ piece content is e. whole-good piece content is.1 e

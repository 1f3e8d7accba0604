use Rattle.pb_collect.proofs.ProgressLemmas.{question_low, known_next}
use Rattle.pb_collect.proofs.laws.questions_are_allowed.Goals as goal

pub returns-clause-below : goal.returns-clause-below
returns-clause-below c = question_low

pub returns-clause-next : goal.returns-clause-next
returns-clause-next c = known_next

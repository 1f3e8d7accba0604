use Rattle.pb_truth.proofs.AnswerLemmas.{goes-within, ends-within}
use Rattle.pb_truth.proofs.bound.full_answers_go_on_within_the_bound.Goals as goal

pub returns-clause-goes : goal.returns-clause-goes
returns-clause-goes c = goes-within

pub returns-clause-ends : goal.returns-clause-ends
returns-clause-ends c = ends-within

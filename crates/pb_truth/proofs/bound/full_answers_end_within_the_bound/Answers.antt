use Rattle.pb_truth.proofs.AnswerLemmas.{within-bound}
use Rattle.pb_truth.proofs.bound.full_answers_end_within_the_bound.Goals as goal

pub returns : goal.returns
returns c = within-bound

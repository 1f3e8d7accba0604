use Rattle.pb_truth.proofs.KeepingLemmas.{all_can}
use Rattle.pb_truth.proofs.learning.fragments_that_fit_can_be_kept.Goals as goal

pub returns : goal.returns
returns c = all_can

use Rattle.pb_collect.proofs.ProgressLemmas.{fits_known}
use Rattle.pb_collect.proofs.TakeLemmas.{all_can}
use Rattle.pb_collect.proofs.laws.answers_can_be_taken.Goals as goal

pub returns-clause-taken : goal.returns-clause-taken
returns-clause-taken c p table reply message reads complete fits = all_can p table reply message reads complete fits

pub returns-clause-known : goal.returns-clause-known
returns-clause-known c p k reply at complete fits = fits_known p k reply at fits complete

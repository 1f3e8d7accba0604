use Rattle.pb_truth.proofs.KeepingLemmas.{fragment_kept, after_adds, after_further, first_true}
use Rattle.pb_truth.proofs.learning.advances_keep_what_is_learned.Goals as goal

pub returns-clause-keep : goal.returns-clause-keep
returns-clause-keep c = fragment_kept

pub returns-clause-add : goal.returns-clause-add
returns-clause-add c layout t some = after_adds layout some t

pub returns-clause-further : goal.returns-clause-further
returns-clause-further c layout t some more = after_further layout some more t

pub returns-clause-first : goal.returns-clause-first
returns-clause-first c = first_true

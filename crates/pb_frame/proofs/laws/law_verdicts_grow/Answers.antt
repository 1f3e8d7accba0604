use Rattle.pb_frame.proofs.FollowsLemmas.{verdicts-append}
use Rattle.pb_frame.proofs.laws.law_verdicts_grow.Goals as goal

pub returns : goal.returns
returns c = verdicts-append

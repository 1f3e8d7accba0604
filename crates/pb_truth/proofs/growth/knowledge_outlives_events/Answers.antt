use Rattle.pb_truth.proofs.GrowthLemmas.{known_later}
use Rattle.pb_truth.proofs.growth.knowledge_outlives_events.Goals as goal

pub returns : goal.returns
returns c = known_later

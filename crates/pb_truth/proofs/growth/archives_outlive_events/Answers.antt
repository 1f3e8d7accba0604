use Rattle.pb_truth.proofs.AskedLemmas.{sent_nothing}
use Rattle.pb_truth.proofs.GrowthLemmas.{sound_grown_world, good_quietly}
use Rattle.pb_truth.proofs.growth.archives_outlive_events.Goals as goal

pub returns-clause-sound : goal.returns-clause-sound
returns-clause-sound c = sound_grown_world

pub returns-clause-good : goal.returns-clause-good
returns-clause-good c = good_quietly

pub returns-clause-silent : goal.returns-clause-silent
returns-clause-silent c = sent_nothing

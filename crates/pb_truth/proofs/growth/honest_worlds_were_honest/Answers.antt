use Rattle.pb_truth.proofs.GrowthLemmas.{honest_prefix, honest_fewer}
use Rattle.pb_truth.proofs.growth.honest_worlds_were_honest.Goals as goal

pub returns-clause-earlier : goal.returns-clause-earlier
returns-clause-earlier c = honest_prefix

pub returns-clause-fewer : goal.returns-clause-fewer
returns-clause-fewer c = honest_fewer

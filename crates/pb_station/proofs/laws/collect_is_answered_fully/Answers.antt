use Rattle.pb_station.proofs.FullLemmas.{answered-fully}
use Rattle.pb_station.proofs.laws.collect_is_answered_fully.Goals as goal

pub returns : goal.returns
returns c = answered-fully

use Rattle.pb_station.proofs.LawLemmas.{room-fits}
use Rattle.pb_station.proofs.laws.a_reply_is_filled.Goals as goal

pub returns : goal.returns
returns c = room-fits

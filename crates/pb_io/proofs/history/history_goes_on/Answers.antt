use Rattle.pb_io.proofs.WorldLemmas.{history-later}
use Rattle.pb_io.proofs.history.history_goes_on.Goals as goal

pub returns : goal.returns
returns c = history-later

use Rattle.pb_journal.proofs.AheadLemmas.{lie_ahead}
use Rattle.pb_journal.proofs.laws.entries_lie_ahead.Goals as goal

pub returns : goal.returns
returns c = lie_ahead

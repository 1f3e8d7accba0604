use Rattle.pb_archive.proofs.LeadsLemmas.{one_archive}
use Rattle.pb_archive.proofs.laws.entries_are_one_archive.Goals as goal

pub returns : goal.returns
returns c = one_archive

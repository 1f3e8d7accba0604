use Rattle.pb_truth.proofs.PairLemmas.{good_asked, good_of, good_changed}
use Rattle.pb_truth.proofs.pairs.images_stay_good.Goals as goal

pub returns-clause-archive : goal.returns-clause-archive
returns-clause-archive c = good_of c.entries_are_one.ensures c.entries_are_one_archive.ensures

pub returns-clause-asked : goal.returns-clause-asked
returns-clause-asked c = good_asked

pub returns-clause-changed : goal.returns-clause-changed
returns-clause-changed c = good_changed c.entries_are_one.ensures c.entries_are_one_archive.ensures c.changes_take_nothing_back.ensures.change

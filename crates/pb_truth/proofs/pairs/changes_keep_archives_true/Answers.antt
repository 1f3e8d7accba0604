use Rattle.pb_archive.specs.Entry.{archive_after}
use Rattle.pb_truth.proofs.AskedLemmas.{asked_extends}
use Rattle.pb_truth.proofs.TableLemmas.{sound_after}
use Rattle.pb_truth.proofs.pairs.changes_keep_archives_true.Goals as goal

pub returns-clause-sound : goal.returns-clause-sound
returns-clause-sound c = sound_after

pub returns-clause-asked : goal.returns-clause-asked
returns-clause-asked c w a change asked allowed =
    asked_extends w a (archive_after a change) (c.changes_take_nothing_back.ensures.change a change allowed) asked

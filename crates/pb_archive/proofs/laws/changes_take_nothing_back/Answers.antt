use Rattle.pb_archive.proofs.WritingLemmas.{Extends-after, Extends-trans}
use Rattle.pb_archive.proofs.laws.changes_take_nothing_back.Goals as goal

pub returns-clause-change : goal.returns-clause-change
returns-clause-change c = Extends-after

pub returns-clause-further : goal.returns-clause-further
returns-clause-further c = Extends-trans

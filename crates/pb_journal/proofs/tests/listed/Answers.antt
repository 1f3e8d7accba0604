use Rattle.pb_journal.proofs.ReadingLemmas.{opened_ahead}
use Rattle.pb_journal.proofs.tests.listed.Goals as goal

pub loop-all-init : goal.loop-all-init
loop-all-init g c = opened_ahead _ (g.D.Disk.view c.open.new.disk) _ c.in_ok-journal.ensures.opened c.in_ok-entries.ensures.reads

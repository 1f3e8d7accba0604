use Rattle.std.proofs.Common.{sym, subst}
use Rattle.pb_journal.specs.Changes.{Keeps, KeepsOrBegins, SameEntries}
use Rattle.pb_archive.specs.Creation.{IsReady, KeepsOrEmpties}
use Rattle.pb_archive.specs.Inside.{IsCreatedNow}
use Rattle.pb_archive.specs.Refusals.{InitRefuses}
use Rattle.pb_io.proofs.CrashLemmas.{Changes-trans, Changes-weaker}
use Rattle.pb_archive.proofs.CreationLemmas.{Leaves-trans, Leaves-weaker, begins_empties, begins_keeps, ready, init_refused}
use Rattle.pb_archive.proofs.creation.open_journal.Goals as goal

pub returns-in-Err-clause-leaves : goal.returns-in-Err-clause-leaves
returns-in-Err-clause-leaves g c = Leaves-weaker KeepsOrBegins KeepsOrEmpties _ _ (λ f x image step. begins_empties f x step) c.make_journal.ensures.leaves

pub returns-in-Ok-open-clause-ready : goal.returns-in-Ok-open-clause-ready
returns-in-Ok-open-clause-ready g c = Changes-trans IsCreatedNow SameEntries IsReady _ _ _ (λ f m g is now. ready f m g) c.in-Ok.ensures.made c.in-Ok-open.ensures.same

pub returns-in-Err-clause-file : goal.returns-in-Err-clause-file
returns-in-Err-clause-file g c = Changes-weaker KeepsOrBegins KeepsOrEmpties _ _ (λ f x is. begins_empties f x) c.make_journal.ensures.file

pub returns-in-Ok-open-clause-file : goal.returns-in-Ok-open-clause-file
returns-in-Ok-open-clause-file g c = Changes-trans KeepsOrBegins Keeps KeepsOrEmpties _ _ _ (λ f m x is now. begins_keeps f m x) c.make_journal.ensures.file c.open.ensures.file

pub returns-in-Err-open-clause-file : goal.returns-in-Err-open-clause-file
returns-in-Err-open-clause-file g c = Changes-trans KeepsOrBegins Keeps KeepsOrEmpties _ _ _ (λ f m x is now. begins_keeps f m x) c.make_journal.ensures.file c.open.ensures.file

pub returns-in-Ok-open-clause-leaves : goal.returns-in-Ok-open-clause-leaves
returns-in-Ok-open-clause-leaves g c =
    Leaves-trans KeepsOrBegins Keeps KeepsOrEmpties _ _ _ (g.met.D.Disk.lawful c.make_journal.new.disk) begins_empties begins_keeps c.make_journal.ensures.leaves c.open.ensures.leaves

pub returns-in-Err-open-clause-leaves : goal.returns-in-Err-open-clause-leaves
returns-in-Err-open-clause-leaves g c =
    Leaves-trans KeepsOrBegins Keeps KeepsOrEmpties _ _ _ (g.met.D.Disk.lawful c.make_journal.new.disk) begins_empties begins_keeps c.make_journal.ensures.leaves c.open.ensures.leaves

pub returns-in-Err-open-clause-refused : goal.returns-in-Err-open-clause-refused
returns-in-Err-open-clause-refused g c =
    subst (InitRefuses (g.D.Disk.view c.args.disk.now).file) (sym c.from.ensures) (init_refused _ _ c.in-Err-open.fault c.in-Ok.ensures.made c.in-Err-open.ensures.refused)

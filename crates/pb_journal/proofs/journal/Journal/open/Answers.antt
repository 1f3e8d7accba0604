use Rattle.std.proofs.Common.{inl, refl}
use Rattle.pb_io.proofs.RunLemmas.{Runs-sync, Runs-trans, Runs-weaker}
use Rattle.pb_journal.specs.Changes.{Keeps, Same}
use Rattle.pb_journal.proofs.LawLemmas.{Keeps-trans}
use Rattle.pb_journal.proofs.journal.Journal.open.Goals as goal

pub returns-in_err-close_end-clause-leaves : goal.returns-in_err-close_end-clause-leaves
returns-in_err-close_end-clause-leaves g c =
    let s = c.sync.ensures in
    let synced = Runs-sync Keeps _ _ (g.met.D.Disk.lawful c.args.disk.now) (λ i. inl refl) s.images s.link s.time s.cause.later in
    let found = Runs-weaker Same Keeps _ _ (λ d i image same. inl same) c.find_end.ensures.peeks.run in
    (Runs-trans Keeps Keeps-trans _ _ _ synced (Runs-trans Keeps Keeps-trans _ _ _ found c.close_end.ensures.run)).leaves

pub returns-clause-leaves : goal.returns-clause-leaves
returns-clause-leaves g c =
    let s = c.sync.ensures in
    let synced = Runs-sync Keeps _ _ (g.met.D.Disk.lawful c.args.disk.now) (λ i. inl refl) s.images s.link s.time s.cause.later in
    let found = Runs-weaker Same Keeps _ _ (λ d i image same. inl same) c.find_end.ensures.peeks.run in
    (Runs-trans Keeps Keeps-trans _ _ _ synced (Runs-trans Keeps Keeps-trans _ _ _ found c.close_end.ensures.run)).leaves

use Rattle.std.proofs.Common.{arith, ◌+◌, length, refl}
use Rattle.pb_io.proofs.RunLemmas.{Runs-sync, Runs-trans, Runs-weaker}
use Rattle.pb_journal.specs.Inside.{KeepsBefore}
use Rattle.pb_journal.proofs.RunLemmas.{KeepsBefore-trans, KeepsBefore-lower}
use Rattle.pb_journal.proofs.staging.stage.Goals as goal

pub returns-in_err-put_both-2-clause-run : goal.returns-in_err-put_both-2-clause-run
returns-in_err-put_both-2-clause-run g c =
    let at = c.args.at in
    let after = at + 4 + length c.args.head.now in
    Runs-trans (KeepsBefore at) (KeepsBefore-trans at) _ _ _ c.put_both.ensures.run
    (Runs-weaker (KeepsBefore after) (KeepsBefore at) _ _ (λ d i image same. KeepsBefore-lower after at d i (omega arith) same) c.put_both-2.ensures.run)

pub returns-in_err-sync-clause-run : goal.returns-in_err-sync-clause-run
returns-in_err-sync-clause-run g c =
    let at = c.args.at in
    let after = at + 4 + length c.args.head.now in
    let s = c.sync.ensures in
    Runs-trans (KeepsBefore at) (KeepsBefore-trans at) _ _ _ c.put_both.ensures.run
    (Runs-trans (KeepsBefore at) (KeepsBefore-trans at) _ _ _ (Runs-weaker (KeepsBefore after) (KeepsBefore at) _ _ (λ d i image same. KeepsBefore-lower after at d i (omega arith) same) c.put_both-2.ensures.run)
    (Runs-sync (KeepsBefore at) _ _ (g.met.D.Disk.lawful c.put_both-2.new.disk) (λ i. refl) s.images s.link s.time s.cause.later))

pub returns-clause-run : goal.returns-clause-run
returns-clause-run g c =
    let at = c.args.at in
    let after = at + 4 + length c.args.head.now in
    let s = c.sync.ensures in
    Runs-trans (KeepsBefore at) (KeepsBefore-trans at) _ _ _ c.put_both.ensures.run
    (Runs-trans (KeepsBefore at) (KeepsBefore-trans at) _ _ _ (Runs-weaker (KeepsBefore after) (KeepsBefore at) _ _ (λ d i image same. KeepsBefore-lower after at d i (omega arith) same) c.put_both-2.ensures.run)
    (Runs-sync (KeepsBefore at) _ _ (g.met.D.Disk.lawful c.put_both-2.new.disk) (λ i. refl) s.images s.link s.time s.cause.later))

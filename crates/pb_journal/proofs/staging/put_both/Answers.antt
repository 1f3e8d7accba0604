use Rattle.std.proofs.Common.{arith, ◌+◌, length}
use Rattle.pb_io.proofs.RunLemmas.{Runs-trans, Runs-weaker}
use Rattle.pb_journal.specs.Inside.{KeepsBefore}
use Rattle.pb_journal.proofs.RunLemmas.{KeepsBefore-trans, KeepsBefore-lower}
use Rattle.pb_journal.proofs.staging.put_both.Goals as goal

pub returns-in_err-put-2-clause-run : goal.returns-in_err-put-2-clause-run
returns-in_err-put-2-clause-run g c =
    let at = c.args.at in
    let after = at + length c.args.first.now in
    Runs-trans (KeepsBefore at) (KeepsBefore-trans at) _ _ _ c.put.ensures.run
    (Runs-weaker (KeepsBefore after) (KeepsBefore at) _ _ (λ d i image same. KeepsBefore-lower after at d i (omega arith) same) c.put-2.ensures.run)

pub returns-clause-run : goal.returns-clause-run
returns-clause-run g c =
    let at = c.args.at in
    let after = at + length c.args.first.now in
    Runs-trans (KeepsBefore at) (KeepsBefore-trans at) _ _ _ c.put.ensures.run
    (Runs-weaker (KeepsBefore after) (KeepsBefore at) _ _ (λ d i image same. KeepsBefore-lower after at d i (omega arith) same) c.put-2.ensures.run)

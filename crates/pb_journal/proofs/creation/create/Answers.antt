use Rattle.pb_journal.proofs.CreationLemmas.{written_file, begun_file, writing_leaves, opening_leaves}
use Rattle.pb_journal.proofs.creation.create.Goals as goal

pub returns-in_err-write_in_order-clause-file : goal.returns-in_err-write_in_order-clause-file
returns-in_err-write_in_order-clause-file g c =
    written_file _ _ _ (c.in_ok-is_created.ensures.vacant c.if-branch.false) c.is_created.ensures.peeks.disk.file c.in_ok-shorten.ensures.short _ c.write_in_order.ensures.file

pub returns-in_err-write_settled-clause-file : goal.returns-in_err-write_settled-clause-file
returns-in_err-write_settled-clause-file g c =
    begun_file _ _ _ (c.in_ok-is_created.ensures.vacant c.if-branch.false) c.is_created.ensures.peeks.disk.file c.in_ok-shorten.ensures.short _ _ c.in_ok-write_in_order.ensures.written c.write_settled.ensures.file

pub returns-in_err-write_in_order-clause-leaves : goal.returns-in_err-write_in_order-clause-leaves
returns-in_err-write_in_order-clause-leaves g c =
    let short = c.in_ok-shorten.ensures in
    writing_leaves _ _ _ (g.met.D.Disk.lawful c.args.disk.now) (c.in_ok-is_created.ensures.vacant c.if-branch.false) c.is_created.ensures.peeks short.run _ short.short short.settled c.write_in_order.ensures.run.leaves

pub returns-in_err-write_settled-clause-leaves : goal.returns-in_err-write_settled-clause-leaves
returns-in_err-write_settled-clause-leaves g c =
    let short = c.in_ok-shorten.ensures in
    let made = c.in_ok-write_in_order.ensures in
    opening_leaves _ _ _ (g.met.D.Disk.lawful c.args.disk.now) (c.in_ok-is_created.ensures.vacant c.if-branch.false) c.is_created.ensures.peeks short.run _ short.short short.settled made.run.leaves _ made.written made.run.link made.settled c.write_settled.ensures.run.leaves

pub returns-clause-leaves : goal.returns-clause-leaves
returns-clause-leaves g c =
    let short = c.in_ok-shorten.ensures in
    let made = c.in_ok-write_in_order.ensures in
    opening_leaves _ _ _ (g.met.D.Disk.lawful c.args.disk.now) (c.in_ok-is_created.ensures.vacant c.if-branch.false) c.is_created.ensures.peeks short.run _ short.short short.settled made.run.leaves _ made.written made.run.link made.settled c.write_settled.ensures.run.leaves

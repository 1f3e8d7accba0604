use Rattle.std.proofs.Common.{arith, length-append}
use Rattle.pb_journal.proofs.AppendLemmas.{joined_body, staged_file, gated_file, staging_leaves, gate_leaves, file_gains, opened_again}
use Rattle.pb_journal.proofs.staging.add_entry.Goals as goal

pub returns-in_err-stage-clause-file : goal.returns-in_err-stage-clause-file
returns-in_err-stage-clause-file g c =
    let is = joined_body c.args.head.now c.args.rest.now c.requires.some c.requires.few in
    staged_file c.args.gate _ is _ c.requires.opened.rests _ c.stage.ensures.file

pub returns-in_err-write_settled-clause-file : goal.returns-in_err-write_settled-clause-file
returns-in_err-write_settled-clause-file g c =
    let is = joined_body c.args.head.now c.args.rest.now c.requires.some c.requires.few in
    gated_file c.args.gate _ is _ c.requires.opened.rests _ _ c.in_ok-stage.ensures.written c.write_settled.ensures.file

pub returns-clause-file : goal.returns-clause-file
returns-clause-file g c =
    let is = joined_body c.args.head.now c.args.rest.now c.requires.some c.requires.few in
    gated_file c.args.gate _ is _ c.requires.opened.rests _ _ c.in_ok-stage.ensures.written c.write_settled.ensures.file

pub returns-in_err-stage-clause-leaves : goal.returns-in_err-stage-clause-leaves
returns-in_err-stage-clause-leaves g c =
    let is = joined_body c.args.head.now c.args.rest.now c.requires.some c.requires.few in
    staging_leaves c.args.gate _ is _ _ (g.met.D.Disk.lawful c.args.disk.now) c.requires.opened c.stage.ensures.run

pub returns-in_err-write_settled-clause-leaves : goal.returns-in_err-write_settled-clause-leaves
returns-in_err-write_settled-clause-leaves g c =
    let is = joined_body c.args.head.now c.args.rest.now c.requires.some c.requires.few in
    let staged = c.in_ok-stage.ensures in
    gate_leaves c.args.gate _ is _ _ (g.met.D.Disk.lawful c.args.disk.now) c.requires.opened _ staged.run staged.written staged.settled c.write_settled.ensures.run.leaves

pub returns-clause-leaves : goal.returns-clause-leaves
returns-clause-leaves g c =
    let is = joined_body c.args.head.now c.args.rest.now c.requires.some c.requires.few in
    let staged = c.in_ok-stage.ensures in
    gate_leaves c.args.gate _ is _ _ (g.met.D.Disk.lawful c.args.disk.now) c.requires.opened _ staged.run staged.written staged.settled c.write_settled.ensures.run.leaves

pub returns-clause-added : goal.returns-clause-added
returns-clause-added g c =
    let is = joined_body c.args.head.now c.args.rest.now c.requires.some c.requires.few in
    let staged = c.in_ok-stage.ensures in
    file_gains c.args.gate _ is _ _ (g.met.D.Disk.lawful c.args.disk.now) c.requires.opened (g.D.Disk.view c.write_settled.new.disk) staged.run staged.written c.in_ok-write_settled.ensures.written

pub returns-clause-opened : goal.returns-clause-opened
returns-clause-opened g c =
    let is = joined_body c.args.head.now c.args.rest.now c.requires.some c.requires.few in
    let staged = c.in_ok-stage.ensures in
    let wrote = c.in_ok-write_settled.ensures in
    opened_again c.args.gate _ is _ _ (g.met.D.Disk.lawful c.args.disk.now) c.requires.opened _ staged.run staged.written wrote.written _ (omega (arith, length-append c.args.head.now c.args.rest.now)) wrote.settled

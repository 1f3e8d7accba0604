use Rattle.std.proofs.Common.{◌≤◌, length, ap, subst, arith, rules, length-append}
use Rattle.pb_tdf.specs.Definition.{file_bytes_max}
use Rattle.pb_collect.specs.Tables.{channel}
use Rattle.pb_collect.specs.Uploads.{StepIs}
use Rattle.pb_collect.specs.declared.uploading.Step.{Step}
use Rattle.pb_collect.proofs.AddingLemmas.{adds_trans}
use Rattle.pb_collect.proofs.UploadingLemmas.{joined_more, reads_trans}
use Rattle.pb_collect.proofs.uploading.upload.Goals as goal

pub pieces-preserved : goal.pieces-preserved
pieces-preserved g c =
    let inv = c.pieces.invariant in
    let old = g.S.Disk.view c.args.site.now in
    let now = g.S.Disk.view c.pieces.site in
    let new = g.S.Disk.view c.next_piece.new.site in
    let step = subst (λ (s : Step). StepIs c.args.limits c.args.contact.now s c.pieces.file.items c.next_piece.new.file.items (channel c.pieces.listener now.link) (channel c.next_piece.new.listener new.link)) c.in-Ok-Came.field-0-is c.in-Ok-Came.ensures.step in
    let few : length c.pieces.file.items ≤ file_bytes_max = omega arith in
    record {
      small = omega (arith, c.next_piece.ensures.small, few);
      room = omega (arith, inv.room, c.next_piece.ensures.room);
      grown = omega (arith, inv.grown, c.next_piece.ensures.room);
      joined = joined_more c.args.limits c.args.contact.now c.pieces.file.items c.next_piece.new.file.items (channel c.args.listener.now old.link) (channel c.pieces.listener now.link) (channel c.next_piece.new.listener new.link) inv.joined few step;
      adds = adds_trans old now new (g.met.S.Disk.lawful c.pieces.site) inv.adds c.next_piece.ensures.adds;
      disk = reads_trans old now new inv.disk c.next_piece.ensures.disk;
      disk_faults = search rules;
      link_faults = search rules;
      count = omega (arith, inv.count, c.next_piece.ensures.count, ap length step.1, length-append c.pieces.file.items step.0, step.2);
    }

pub returns-in-Err-clause-adds : goal.returns-in-Err-clause-adds
returns-in-Err-clause-adds g c =
    adds_trans (g.S.Disk.view c.args.site.now) (g.S.Disk.view c.pieces.site) (g.S.Disk.view c.next_piece.new.site) (g.met.S.Disk.lawful c.pieces.site) c.pieces.invariant.adds c.next_piece.ensures.adds

pub returns-in-Ok-Ends-clause-adds : goal.returns-in-Ok-Ends-clause-adds
returns-in-Ok-Ends-clause-adds g c =
    adds_trans (g.S.Disk.view c.args.site.now) (g.S.Disk.view c.pieces.site) (g.S.Disk.view c.next_piece.new.site) (g.met.S.Disk.lawful c.pieces.site) c.pieces.invariant.adds c.next_piece.ensures.adds

pub returns-in-Ok-Fails-clause-adds : goal.returns-in-Ok-Fails-clause-adds
returns-in-Ok-Fails-clause-adds g c =
    adds_trans (g.S.Disk.view c.args.site.now) (g.S.Disk.view c.pieces.site) (g.S.Disk.view c.next_piece.new.site) (g.met.S.Disk.lawful c.pieces.site) c.pieces.invariant.adds c.next_piece.ensures.adds

use Rattle.std.proofs.Common.{arith, ◌∙◌, ap, ◌∷◌}
use Rattle.pb_io.specs.DiskLog.{DiskLog, Wrote}
use Rattle.pb_io.proofs.DiskLemmas.{wrote_file}
use Rattle.pb_io.proofs.mem_disk.MemDiskDisk.write_at.Goals as goal

pub returns-clause-file : goal.returns-clause-file
returns-clause-file c =
    let at = c.args.at in
    let from = c.args.from.now in
    wrote_file c.args.self.now _ _ at from (ap (λ (d : DiskLog). d.first) c.self.view_is) (c.in-Ok-wrote.ensures.added ∙ ap (λ (d : DiskLog). Wrote at from ∷ d.changes) c.self.view_is) c.requires (omega arith)

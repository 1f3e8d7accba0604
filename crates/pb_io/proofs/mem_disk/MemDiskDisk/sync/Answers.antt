use Rattle.std.proofs.Common.{◌∙◌, ap, ◌∷◌}
use Rattle.pb_io.specs.DiskLog.{DiskLog, Synced}
use Rattle.pb_io.proofs.DiskLemmas.{synced_images}
use Rattle.pb_io.proofs.mem_disk.MemDiskDisk.sync.Goals as goal

pub returns-clause-images : goal.returns-clause-images
returns-clause-images c =
    synced_images c.args.self.now _ _ (ap (λ (d : DiskLog). d.first) c.self.view_is) (c.in-Ok.ensures.added ∙ ap (λ (d : DiskLog). Synced ∷ d.changes) c.self.view_is)

use Rattle.std.proofs.Common.{subst, sym}
use Rattle.pb_archive.specs.Opened.{OpenArchive, IsOpen}
use Rattle.pb_archive.proofs.archive.Archive.write.Goals as goal

pub write-requires-clause-opened : goal.write-requires-clause-opened
write-requires-clause-opened g c =
    let here = subst (λ (o : OpenArchive). IsOpen o (g.D.Disk.view c.args.disk.now)) (sym c.self.view_is) c.requires.opened in
    (_, here.stands)

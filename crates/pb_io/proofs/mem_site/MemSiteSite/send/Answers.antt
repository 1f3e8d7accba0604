use Rattle.std.proofs.Common.{◌∙◌, ap, ◌++◌, [], ◌∷◌, refl}
use Rattle.pb_base.specs.World.{Sent}
use Rattle.pb_io.specs.DiskLog.{DiskLog, world_of}
use Rattle.pb_io.specs.InMemory.{Place}
use Rattle.pb_io.proofs.WorldLemmas.{GrowsBy-known}
use Rattle.pb_io.proofs.mem_site.MemSiteSite.send.Goals as goal

pub returns-clause-world : goal.returns-clause-world
returns-clause-world c =
    let events = Sent c.args.frame.now ∷ [] in
    GrowsBy-known _ _ events (ap (λ (d : DiskLog). world_of d.changes) c.in-Ok.ensures.added ∙ ap (λ (s : Place). world_of s.disk.changes ++ events) c.self.view_is) refl

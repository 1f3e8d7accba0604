use Rattle.std.proofs.Common.{arith, ◌≡◌, ◌∙◌, ap, ◌++◌, take}
use Rattle.std.proofs.lemmas.Grind.{common_steps}
use Rattle.pb_io.specs.ChangeLog.{arrival}
use Rattle.pb_io.specs.DiskLog.{DiskLog, world_of}
use Rattle.pb_io.specs.InMemory.{Place}
use Rattle.pb_io.proofs.MemSiteLemmas.{arrival_grows}
use Rattle.pb_io.proofs.mem_site.MemSiteSite.recv.Goals as goal

pub returns-then-n-eq0-clause-world : goal.returns-then-n-eq0-clause-world
returns-then-n-eq0-clause-world c =
    let n = c.min-n.result in
    let chunk = c.next-chunk.result.now in
    let copied : c.copy_from_slice.new.self ≡ take n chunk = grind (arith, common_steps) in
    arrival_grows (world_of c.args.self.now.disk.changes) (world_of c.received.new.self.changes) chunk _ _ n
    (ap (λ (d : DiskLog). world_of d.changes) c.in-Ok.ensures.added ∙ ap (λ (s : Place). world_of s.disk.changes ++ arrival (take n chunk)) c.self.view_is) copied (omega arith)

pub returns-else-n-eq0-clause-world : goal.returns-else-n-eq0-clause-world
returns-else-n-eq0-clause-world c =
    let n = c.min-n.result in
    let chunk = c.next-chunk.result.now in
    let copied : c.copy_from_slice.new.self ≡ take n chunk = grind (arith, common_steps) in
    arrival_grows (world_of c.args.self.now.disk.changes) (world_of c.received.new.self.changes) chunk _ _ n
    (ap (λ (d : DiskLog). world_of d.changes) c.in-Ok.ensures.added ∙ ap (λ (s : Place). world_of s.disk.changes ++ arrival (take n chunk)) c.self.view_is) copied (omega arith)

use Rattle.std.proofs.Common.{◌≡◌, ◌+◌, ◌≤◌, ◌++◌, length}
use Rattle.pb_base.specs.World.{World}
use Rattle.pb_io.specs.Site.{GrowsBy}
use Rattle.pb_station.specs.State.{State}
use Rattle.pb_serve.specs.Inside.{IsAlive, IsGoing, Stands, work}
use Rattle.pb_serve.specs.Talks.{Talks}
use Rattle.pb_serve.proofs.server.Server.hear.Given as goal

abbrev pub invariant-loop-rest : goal.invariant-loop-rest
invariant-loop-rest g l = record {
  so_far : (first : State) (w : World) → Stands first l.fn.self w l.fn.bytes
      → (more : World) × GrowsBy (g.S.Disk.view l.fn.site).link.world (g.S.Disk.view l.site).link.world more × Stands first l.self (w ++ more) l.rest;
  going : IsGoing l.self;
  alive : IsAlive l.self;
  goal : l.self.goal ≡ l.fn.self.goal;
  quiets : l.self.quiets ≡ l.fn.self.quiets;
  less : work l.self + length l.fn.bytes ≤ work l.fn.self + length l.rest;
  talks : Talks (g.S.Disk.view l.fn.site) (g.S.Disk.view l.site);
  faults : (g.S.Disk.view l.site).link.faults ≡ (g.S.Disk.view l.fn.site).link.faults;
}

abbrev pub decreases-loop-rest : goal.decreases-loop-rest
decreases-loop-rest g l = length l.rest

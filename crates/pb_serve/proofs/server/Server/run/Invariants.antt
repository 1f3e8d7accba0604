use Rattle.std.proofs.Common.{◌≡◌, []}
use Rattle.pb_base.specs.World.{World}
use Rattle.pb_io.specs.Site.{GrowsBy}
use Rattle.pb_station.specs.State.{State}
use Rattle.pb_serve.specs.Inside.{IsAlive, IsGoing, Stands, calls}
use Rattle.pb_serve.specs.Talks.{Talks}
use Rattle.pb_serve.proofs.server.Server.run.Given as goal

abbrev pub invariant-loop-n : goal.invariant-loop-n
invariant-loop-n g l = record {
  so_far : (first : State) → Stands first l.fn.self [] []
      → (w : World) × GrowsBy (g.S.Disk.view l.fn.site).link.world (g.S.Disk.view l.site).link.world w × Stands first l.self w [];
  going : IsGoing l.self;
  alive : IsAlive l.self;
  goal : l.self.goal ≡ l.fn.self.goal;
  talks : Talks (g.S.Disk.view l.fn.site) (g.S.Disk.view l.site);
  faults : (g.S.Disk.view l.site).link.faults ≡ (g.S.Disk.view l.fn.site).link.faults;
}

abbrev pub decreases-loop-n : goal.decreases-loop-n
decreases-loop-n g l = calls l.self

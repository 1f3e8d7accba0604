-- Calls of the link alone, and what a crash may leave while they are made.
use Rattle.std.specs.Prelude.{◌≡◌, ◌++◌, ℕ, List, Some}
use Rattle.pb_base.specs.World.{World}
use Rattle.pb_io.specs.Disk.{ReadsOnly}
use Rattle.pb_io.specs.Site.{GrowsBy}
use Rattle.pb_io.specs.View.{View, LeavesOnly}

-- an image of before, and the world of before with a prefix of what came then
pub record Between (old new : View) (w : World) (c : List ℕ) : Type 0 where
  pub image : old.image c
  pub before : World
  pub more : World
  pub rest : World
  pub known : old.link.world ≡ Some before
  pub is : w ≡ before ++ more
  pub prefix : new.link.world ≡ Some (w ++ rest)

-- calls of the link alone
pub record Talks (old new : View) : Type 0 where
  pub reads : ReadsOnly old new
  pub disk_faults : new.faults ≡ old.faults
  pub leaves : LeavesOnly old new (Between old new)
  pub events : World
  pub grows : GrowsBy old.link.world new.link.world events

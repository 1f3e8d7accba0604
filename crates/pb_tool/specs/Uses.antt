-- Which parts of the outside a command may touch, and what it leaves of them.
use Rattle.std.specs.Prelude.{◌≡◌, [], Bool, true, false, ◌||◌, Option, Some, None}
use Rattle.std.specs.Bool.{OnFalse}
use Rattle.pb_collect.specs.Adding.{Adds as DefsAdds}
use Rattle.pb_collect.specs.Kept.{Keeps as CollectKeeps}
use Rattle.pb_io.specs.Disk.{ReadsOnly}
use Rattle.pb_io.specs.Site.{SendsAtMost}
use Rattle.pb_io.specs.Outside.{Outside}
use Rattle.pb_io.specs.Settled.{Leaves as DiskLeaves}
use Rattle.pb_io.specs.View.{LeavesOnly}
use Rattle.pb_journal.specs.Changes.{Keeps}
use Rattle.pb_io.specs.declared.disk.Disk as disk
use Rattle.pb_tool.specs.Init.{InitLeaves}
use Rattle.pb_tool.specs.Order.{Order, Show, Init, Check, Ping, Serve, Collect, Export, Defs}
use Rattle.pb_tool.specs.Ping.{Greets}
use Rattle.pb_tool.specs.Serve.{ServeLeaves}
use Rattle.pb_tool.specs.declared.status.Status.{Status}

pub record Uses : Type 0 where
  pub input : Bool
  pub disk : Bool
  pub link : Bool

-- one row a command; words of no listed form touch nothing
abbrev pub uses : Option Order → Uses
uses None = record { input = false; disk = false; link = false }
uses (Some Show) = record { input = true; disk = false; link = false }
uses (Some Init) = record { input = true; disk = true; link = false }
uses (Some Check) = record { input = false; disk = true; link = false }
uses (Some (Ping me node)) = record { input = false; disk = false; link = true }
uses (Some (Serve frames)) = record { input = true; disk = false; link = true }
uses (Some (Collect budget)) = record { input = false; disk = true; link = true }
uses (Some (Export asked)) = record { input = false; disk = true; link = false }
uses (Some Defs) = record { input = false; disk = true; link = true }

-- What the command doesn't use is as it was.
pub record Leaves {S I : Type 0} (d : disk.Ghosts S) (u : Uses) (site_old : S) (input_old : I) (site_new : S)
    (input_new : I) : Type 0 where
  pub input : OnFalse u.input (input_new ≡ input_old)
  pub site : OnFalse (u.disk || u.link) (site_new ≡ site_old)
  pub disk : OnFalse u.disk (ReadsOnly (d.view site_old) (d.view site_new))
  pub disk_faults : OnFalse u.disk ((d.view site_new).faults ≡ (d.view site_old).faults)
  pub link : OnFalse u.link ((d.view site_new).link ≡ (d.view site_old).link)

-- What a crash at some moment of the command may leave, with the world of that moment. A command that makes no disk call
-- leaves an image at entry, and the world at entry with a prefix of the frames that it sends, some of them again.
abbrev pub MayLeave : Option Order → Status → Outside → Outside → Type 0
MayLeave None result before after = LeavesOnly before.site after.site (SendsAtMost [] before.site)
MayLeave (Some Show) result before after = LeavesOnly before.site after.site (SendsAtMost [] before.site)
MayLeave (Some Init) result before after = InitLeaves before after
MayLeave (Some Check) result before after = DiskLeaves Keeps before.site after.site
MayLeave (Some (Ping me node)) result before after = LeavesOnly before.site after.site (Greets me node before.site)
MayLeave (Some (Serve frames)) result before after = ServeLeaves before after
MayLeave (Some (Collect budget)) result before after = CollectKeeps before.site after.site
MayLeave (Some (Export asked)) result before after = DiskLeaves Keeps before.site after.site
MayLeave (Some Defs) result before after = DefsAdds before.site after.site

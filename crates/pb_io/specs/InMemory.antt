-- What contracts see of the forms in memory.
use Rattle.std.specs.Prelude.{ℕ, List}
use Rattle.pb_io.specs.Calls.{Calls}
use Rattle.pb_io.specs.DiskLog.{DiskLog, disk_view}
use Rattle.pb_io.specs.View.{View}

-- the bytes that are left, the greatest number that one read gives, and how often a read found the end
pub record Supply : Type 0 where
  pub left : List ℕ
  pub chunk : ℕ
  pub ends : ℕ
  pub calls : Calls

-- the bytes that were written
pub record Store : Type 0 where
  pub bytes : List ℕ
  pub calls : Calls

-- a disk, the calls of the link over it, the chunks that are to be heard, and the count of quiet ticks
pub record Place : Type 0 where
  pub disk : DiskLog
  pub calls : Calls
  pub waiting : List (List ℕ)
  pub quiets : ℕ

-- what a site in memory reports: its disk, and its world
abbrev pub site_view : Place → View
site_view site = disk_view site.disk site.calls.faults site.quiets

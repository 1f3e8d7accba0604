-- The counts of faults over a call, and the statuses that tell of them.
use Rattle.std.specs.Prelude.{◌≡◌, ◌⊎◌, ℕ, ◌<◌, ◌≤◌}
use Rattle.pb_io.specs.Faults.{Rose}
use Rattle.pb_io.specs.Outside.{Outside}
use Rattle.pb_tool.specs.declared.status.Status.{Status}
use Rattle.pb_tool.specs.declared.status.Status.TheVariants.{ReadFault, WriteFault, DiskFault, LinkFault}

-- One count: it doesn't fall, its own status comes only where it rose, and where it rose the status tells of it, or of
-- the write that failed behind it.
pub record Counts (own result : Status) (before now : ℕ) : Type 0 where
  pub later : before ≤ now
  pub cause : result ≡ own → Rose before now
  pub tells : before < now → (result ≡ own) ⊎ (result ≡ WriteFault)

pub record Causes (result : Status) (before after : Outside) : Type 0 where
  pub reads : Counts ReadFault result before.input.faults after.input.faults
  pub writes : Counts WriteFault result before.out.faults after.out.faults
  pub disk : Counts DiskFault result before.site.faults after.site.faults
  pub link : Counts LinkFault result before.site.link.faults after.site.link.faults

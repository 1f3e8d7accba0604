-- The closing line and the status of an archive that is refused.
use Rattle.std.specs.Prelude.{ℕ, List, [], ◌∷◌, codes, decimal}
use Rattle.pb_archive.specs.declared.fault.ArchiveFault.{ArchiveFault}
use Rattle.pb_archive.specs.declared.fault.ArchiveFault.TheVariants as fault
use Rattle.pb_io.specs.Page.{joined}
use Rattle.pb_tool.specs.declared.status.Status.{Status}
use Rattle.pb_tool.specs.declared.status.Status.TheVariants as status

abbrev pub disk_fault_line : List ℕ
disk_fault_line = codes "pakbus: disk fault\n"

-- `pakbus: format at byte N`
abbrev pub byte_line : ℕ → List ℕ
byte_line at = joined (codes "pakbus: format at byte " ∷ decimal at ∷ codes "\n" ∷ [])

-- The last three never come of an opening; they would follow a disk fault.
unfoldable pub refusal_text : ArchiveFault → List ℕ
refusal_text fault.NotCreated = codes "pakbus: no archive\n"
refusal_text fault.Exists = codes "pakbus: archive exists\n"
refusal_text (fault.Format at) = byte_line at
refusal_text fault.Memory = []
refusal_text fault.DiskFault = disk_fault_line
refusal_text fault.MustReopen = disk_fault_line
refusal_text (fault.Stopped told) = disk_fault_line
refusal_text fault.TooMany = disk_fault_line

abbrev pub refusal_status : ArchiveFault → Status
refusal_status fault.NotCreated = status.NotCreated
refusal_status fault.Exists = status.Exists
refusal_status (fault.Format at) = status.Format
refusal_status fault.Memory = status.Memory
refusal_status fault.DiskFault = status.DiskFault
refusal_status fault.MustReopen = status.DiskFault
refusal_status (fault.Stopped told) = status.DiskFault
refusal_status fault.TooMany = status.DiskFault

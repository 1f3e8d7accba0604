-- What a writing call leaves of the archive in memory and of its disk.
use Rattle.std.specs.Prelude.{◌≡◌, ◌≢◌, true, false}
use Rattle.pb_io.specs.View.{View}
use Rattle.pb_archive.specs.Opened.{OpenArchive, Register, IsOpen, register_of}
use Rattle.pb_archive.specs.Refusals.{NeedsOpening}
use Rattle.pb_archive.specs.declared.fault.ArchiveFault.{ArchiveFault}
use Rattle.pb_archive.specs.declared.fault.ArchiveFault.TheVariants.{DiskFault}

-- The change was made.
pub record LeavesMade (register : Register) (new : OpenArchive) (disk : View) : Type 0 where
  -- this is kept of the archive now
  pub changed : register_of new ≡ register
  -- the file, where it is known, is the archive's, and nothing is pending
  pub opened : IsOpen new disk
  -- further changes may be made
  pub usable : NeedsOpening new false

-- The change was refused.
pub record LeavesRefused {D : Type 0} (old new : OpenArchive) (before after : D) (fault : ArchiveFault) : Type 0 where
  -- what is kept of the archive is as it was
  pub stays : register_of new ≡ register_of old
  -- after a disk fault it must be opened again
  pub must_reopen : fault ≡ DiskFault → NeedsOpening new true
  -- any other refusal leaves all as it was, on the disk too
  pub nothing : fault ≢ DiskFault → (after ≡ before) × (new ≡ old)

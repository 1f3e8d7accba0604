-- The journal's refusals as the archive's.
use Rattle.pb_journal.specs.declared.fault.JournalFault.{JournalFault}
use Rattle.pb_journal.specs.declared.fault.JournalFault.TheVariants as journal
use Rattle.pb_archive.specs.declared.fault.ArchiveFault.{ArchiveFault}
use Rattle.pb_archive.specs.declared.fault.ArchiveFault.TheVariants.{NotCreated, Exists, Format, DiskFault, MustReopen, Memory}

abbrev pub of_journal : JournalFault → ArchiveFault
of_journal journal.NotCreated = NotCreated
of_journal journal.Exists = Exists
of_journal (journal.Format at) = Format at
of_journal journal.DiskFault = DiskFault
of_journal journal.MustReopen = MustReopen
of_journal journal.Memory = Memory

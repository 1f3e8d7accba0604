use Rattle.std.proofs.Common.{arith, ap, length}
use Rattle.pb_io.specs.DiskLaws.{file-short}
use Rattle.pb_io.proofs.mem_disk.MemDiskDisk.len.Goals as goal

pub returns-clause-bound : goal.returns-clause-bound
returns-clause-bound c = omega (arith, c.len.ensures, ap length c.self.invariant, file-short c.self.inside.first.items c.self.inside.log)

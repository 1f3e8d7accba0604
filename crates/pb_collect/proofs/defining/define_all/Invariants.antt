use Rattle.std.proofs.Common.{◌≡◌, ◌<◌, ◌++◌, List, length}
use Rattle.pb_archive.specs.Opened.{register_of}
use Rattle.pb_collect.specs.Defining.{DiskKeeps, TablesCame}
use Rattle.pb_collect.specs.Exchanges.{Goes}
use Rattle.pb_collect.specs.declared.report.DefsLine.{DefsLine as Line}
use Rattle.pb_collect.proofs.defining.define_all.Given as goal

abbrev pub invariant-loop-n : goal.invariant-loop-n
invariant-loop-n g l = record {
  there : l.station < length l.archive.plan.stations;
  came : (lines : List Line) × (l.report.lines ≡ l.fn.report.lines ++ lines) × TablesCame l.station l.definitions l.n lines (register_of l.fn.archive) (register_of l.archive);
  goes : Goes l.archive (g.D.Disk.view l.fn.disk) (g.D.Disk.view l.disk);
  keeps : DiskKeeps l.archive (g.D.Disk.view l.fn.disk) (g.D.Disk.view l.disk);
}

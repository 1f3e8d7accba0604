use Rattle.std.proofs.Common.{◌≡◌, ◌≤◌, ◌+◌, ◌*◌, ◌^◌, ◌++◌, List, vec_capacity}
use Rattle.pb_tdf.specs.Definition.{file_bytes_max}
use Rattle.pb_archive.specs.Opened.{register_of}
use Rattle.pb_collect.specs.Adding.{Adds, HoldsAtLeast}
use Rattle.pb_collect.specs.Exchanges.{Goes}
use Rattle.pb_collect.specs.Fetching.{StationsCame}
use Rattle.pb_collect.specs.Tables.{channel}
use Rattle.pb_collect.specs.declared.report.DefsLine.{DefsLine as Line}
use Rattle.pb_collect.proofs.fetching.fetch_all.Given as goal

abbrev pub invariant-loop-station : goal.invariant-loop-station
invariant-loop-station g l = record {
  room : file_bytes_max + 1000 ≤ vec_capacity l.file;
  plan : l.archive.plan ≡ l.fn.archive.plan;
  came : (lines : List Line) × (l.report.lines ≡ l.fn.report.lines ++ lines)
      × StationsCame l.limits l.fn.archive.plan l.station lines (channel l.initial.listener (g.S.Disk.view l.fn.site).link) (channel l.listener (g.S.Disk.view l.site).link) (register_of l.fn.archive) (register_of l.archive);
  goes : Goes l.archive (g.S.Disk.view l.fn.site) (g.S.Disk.view l.site);
  holds : HoldsAtLeast (register_of l.archive) (g.S.Disk.view l.site);
  adds : Adds (g.S.Disk.view l.fn.site) (g.S.Disk.view l.site);
  count : l.listener.ear.count ≤ l.station * 2 ^ 44;
}

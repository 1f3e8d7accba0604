use Rattle.std.proofs.Common.{◌≡◌, ◌-◌}
use Rattle.pb_io.specs.Page.{printing}
use Rattle.pb_journal.specs.Inside.{Peeks}
use Rattle.pb_csv.specs.Inside.{PutsRows}
use Rattle.pb_csv.proofs.exporting.put_rows.Given as goal

abbrev pub invariant-loop-fault : goal.invariant-loop-fault
invariant-loop-fault g l = record {
  table : l.printer.table.now ≡ l.fn.printer.table.now;
  layout : l.rows.layout ≡ l.fn.rows.layout;
  puts : PutsRows l.fn.printer.table.now.fields (printing g.O.Sink l.fn.page l.fn.out) (printing g.O.Sink l.page l.out) l.fn.rows l.rows (g.D.Disk.view l.fn.disk).file;
  peeks : Peeks (g.D.Disk.view l.fn.disk) (g.D.Disk.view l.disk);
  kept : (g.D.Disk.view l.disk).faults ≡ (g.D.Disk.view l.fn.disk).faults;
}

abbrev pub decreases-loop-fault : goal.decreases-loop-fault
decreases-loop-fault g l = l.rows.to - l.rows.next

use Rattle.std.proofs.Common.{true, false, refl, sym, ◌∙◌}
use Rattle.std.proofs.lemmas.Bool.{false≢true}
use Rattle.pb_journal.proofs.RunLemmas.{Peeks-none, Peeks-trans}
use Rattle.pb_csv.proofs.ExportLemmas.{rows_none, rows_next, rows_end, row_put, none_put}
use Rattle.pb_csv.proofs.exporting.put_rows.Goals as goal

pub loop-fault-init : goal.loop-fault-init
loop-fault-init g c = record {
  table = refl;
  layout = refl;
  puts = rows_none c.args.printer.now.table.now.fields _ c.args.rows.now _;
  peeks = Peeks-none _ (g.met.D.Disk.lawful c.args.disk.now);
  kept = refl;
}

pub put_row-requires-clause-rows : goal.put_row-requires-clause-rows
put_row-requires-clause-rows g c f view =
    let was = c.loop-fault.invariant in
    let old = sym was.peeks.disk.file ∙ view in
    let has = c.requires.rows f old in
    let rest = was.puts.goes f has.0 old has.1 in
    (rest.0, rest.2)

pub loop-fault-preserved : goal.loop-fault-preserved
loop-fault-preserved g c =
    let was = c.loop-fault.invariant in
    let next = row_put c.loop-fault.printer.table.now c.args.printer.now.table.now _ _ c.loop-fault.rows c.put_row.new.rows _ _ was.table was.peeks.disk.file _ c.in-Ok-true.field-0-test c.in-Ok-true.ensures.puts in
    record {
      table = c.put_row.ensures.table ∙ was.table;
      layout = c.put_row.ensures.layout ∙ was.layout;
      puts = rows_next c.args.printer.now.table.now.fields _ _ _ c.args.rows.now c.loop-fault.rows c.put_row.new.rows _ next.0 was.puts next.1 next.2;
      peeks = Peeks-trans _ _ _ was.peeks c.put_row.ensures.reads.peeks;
      kept = c.in-Ok-true.ensures.reads.cause.kept (λ e. cc e) (λ e. cc e) ∙ was.kept;
    }

pub returns-in-Ok-false-clause-puts : goal.returns-in-Ok-false-clause-puts
returns-in-Ok-false-clause-puts g c =
    let was = c.loop-fault.invariant in
    let none = none_put c.loop-fault.printer.table.now c.args.printer.now.table.now _ _ c.loop-fault.rows c.put_row.new.rows _ _ was.table was.peeks.disk.file _ c.in-Ok-false.field-0-test c.in-Ok-false.ensures.puts in
    rows_end c.args.printer.now.table.now.fields _ _ _ c.args.rows.now c.loop-fault.rows _ true was.puts none.0 (λ is. none.1)

pub returns-in-Err-clause-puts : goal.returns-in-Err-clause-puts
returns-in-Err-clause-puts g c =
    let was = c.loop-fault.invariant in
    rows_end c.args.printer.now.table.now.fields _ _ _ c.args.rows.now c.loop-fault.rows _ false was.puts c.in-Err.ensures.puts (λ is. absurd (false≢true is))

use Rattle.std.proofs.Common.{◌∙◌}
use Rattle.pb_io.proofs.PageLemmas.{Adds-as}
use Rattle.pb_csv.proofs.ExportLemmas.{lines_none, lines_all, first_as}
use Rattle.pb_csv.proofs.exporting.put_lines.Goals as goal

pub returns-in-Err-clause-puts : goal.returns-in-Err-clause-puts
returns-in-Err-clause-puts g c = lines_none c.args.printer.now.table.now.fields _ c.args.rows.now _

pub returns-clause-puts : goal.returns-clause-puts
returns-clause-puts g c =
    lines_all c.args.printer.now.table.now.fields _ _ _ c.args.rows.now _ _ (Adds-as _ _ _ _ (c.deref.ensures.value ∙ c.in-Ok.ensures.line) c.push.ensures)
    (first_as _ _ _ _ c.args.rows.now _ _ c.header.ensures.table c.put_rows.ensures.puts)

use Rattle.std.proofs.Common.{◌∙◌}
use Rattle.pb_archive.specs.Rows.{seen_row}
use Rattle.pb_io.proofs.PageLemmas.{Adds-nothing, Adds-as}
use Rattle.pb_csv.proofs.ExportLemmas.{moves_on, row_read}
use Rattle.pb_csv.proofs.exporting.put_row.Goals as goal

pub returns-in-Err-row-clause-puts : goal.returns-in-Err-row-clause-puts
returns-in-Err-row-clause-puts g c = Adds-nothing _

pub returns-clause-puts : goal.returns-clause-puts
returns-clause-puts g c = (
  seen_row c.row.result,
  Adds-as _ _ _ _ (c.deref.ensures.value ∙ c.in-Ok.ensures.line) c.push.ensures,
  λ f all view awaits. row_read c.next.new.self f all _ _ c.in-Ok-true.field-0-test (c.in-Ok-true.ensures.read f all view awaits) c.row.ensures.row,
)

pub returns-clause-moves : goal.returns-clause-moves
returns-clause-moves g c = λ more. moves_on c.args.rows.now c.next.new.self _ c.in-Ok-true.field-0-test c.in-Ok-true.ensures.moves

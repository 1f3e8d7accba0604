use Rattle.std.proofs.Common.{◌++◌, ap, sym, ◌∙◌, take, map, arith}
use Rattle.pb_tdf.specs.Definition.{tables_bytes, table_bytes}
use Rattle.pb_script.specs.Station.{definition_of}
use Rattle.pb_script.proofs.FileLemmas.{then, bytes_more}
use Rattle.pb_script.proofs.file.put_tables.Goals as goal

pub loop-table-preserved : goal.loop-table-preserved
loop-table-preserved c =
    let tables = c.args.tables.now in
    let k = c.loop-table.table-index in
    let t = c.table-item.result in
    then c.args.out.now.items c.loop-table.out.items c.put_table.new.out.items (tables_bytes (map definition_of (take k tables))) (table_bytes (definition_of t)) c.loop-table.invariant c.in-Ok.ensures
    ∙ ap (λ l. c.args.out.now.items ++ l) (sym (bytes_more tables k t (omega arith) c.table-item.is))

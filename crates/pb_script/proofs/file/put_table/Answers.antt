use Rattle.std.proofs.Common.{◌++◌, ap, ◌∙◌}
use Rattle.pb_script.specs.Inside.{after_name}
use Rattle.pb_script.proofs.FileLemmas.{then, name_first}
use Rattle.pb_script.proofs.file.put_table.Goals as goal

pub returns-in-Ok-put : goal.returns-in-Ok-put
returns-in-Ok-put c =
    let table = c.args.table.now in
    then c.args.out.now.items c.put.new.out.items c.put-2.new.out.items table.name (after_name table.shape) (c.in-Ok.ensures ∙ ap (λ l. c.args.out.now.items ++ l) c.bytes.ensures.value) (c.in-Ok-put.ensures ∙ ap (λ l. c.put.new.out.items ++ l) c.after_name.ensures)
    ∙ ap (λ l. c.args.out.now.items ++ l) (name_first table)

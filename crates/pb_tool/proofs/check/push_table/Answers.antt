use Rattle.std.proofs.Common.{refl}
use Rattle.pb_io.proofs.PageLemmas.{Adds-two}
use Rattle.pb_tool.specs.Check.{table_text}
use Rattle.pb_tool.proofs.check.push_table.Goals as goal

pub returns : goal.returns
unfolding table_text
returns g c = Adds-two _ _ _ _ _ _ refl c.push_names.ensures c.push_numbers.ensures

use Rattle.std.proofs.Common.{refl}
use Rattle.pb_io.proofs.PageLemmas.{Adds-as}
use Rattle.pb_tool.specs.Input.{line_text}
use Rattle.pb_tool.proofs.input.push_line.Goals as goal

pub returns : goal.returns
unfolding line_text
returns g c = Adds-as _ _ _ _ (simp c.from.ensures refl) c.put.ensures

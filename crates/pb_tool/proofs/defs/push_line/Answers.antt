use Rattle.std.proofs.Common.{refl}
use Rattle.std.proofs.lemmas.List.{append-nil}
use Rattle.pb_io.proofs.PageLemmas.{Adds-two}
use Rattle.pb_tool.specs.Defs.{line_text}
use Rattle.pb_tool.proofs.defs.push_line.Goals as goal

pub returns : goal.returns
unfolding line_text
returns g c = Adds-two _ _ _ _ _ _ (simp (c.name_of.ensures, append-nil) refl) c.push_escaped.ensures c.push_rest.ensures

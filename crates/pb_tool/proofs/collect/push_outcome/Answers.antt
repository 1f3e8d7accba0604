use Rattle.std.proofs.Common.{refl}
use Rattle.std.proofs.lemmas.List.{append-nil}
use Rattle.pb_io.proofs.PageLemmas.{Adds-four}
use Rattle.pb_tool.specs.Collect.{line_text}
use Rattle.pb_tool.proofs.collect.push_outcome.Goals as goal

pub returns : goal.returns
unfolding line_text
returns g c = Adds-four _ _ _ _ _ _ _ _ _ _ (simp append-nil refl) c.push_names.ensures c.push_numbers.ensures c.push_end.ensures c.push.ensures

use Rattle.std.proofs.Common.{refl}
use Rattle.std.proofs.lemmas.List.{append-nil}
use Rattle.pb_io.proofs.PageLemmas.{Adds-three}
use Rattle.pb_tool.specs.Defs.{failed_text}
use Rattle.pb_tool.proofs.defs.push_failed.Goals as goal

pub returns : goal.returns
unfolding failed_text
returns g c = Adds-three _ _ _ _ _ _ _ _ (simp append-nil refl) c.push.ensures c.push_cause.ensures c.push-2.ensures

use Rattle.std.proofs.Common.{refl}
use Rattle.std.proofs.lemmas.List.{append-nil}
use Rattle.pb_io.proofs.PageLemmas.{Adds-three}
use Rattle.pb_tool.proofs.check.push_names.Goals as goal

pub returns : goal.returns
returns g c =
    Adds-three _ _ _ _ _ _ _ _ (simp (c.name_of.ensures, c.name.ensures, append-nil) refl) c.push_escaped.ensures c.push.ensures c.push_escaped-2.ensures

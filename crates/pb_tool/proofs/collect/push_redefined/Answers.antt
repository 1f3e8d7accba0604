use Rattle.std.proofs.Common.{refl}
use Rattle.std.proofs.lemmas.List.{append-nil}
use Rattle.pb_io.proofs.PageLemmas.{Adds-four}
use Rattle.pb_tool.proofs.collect.push_redefined.Goals as goal

pub returns : goal.returns
returns g c =
    Adds-four _ _ _ _ _ _ _ _ _ _ (simp (c.to_be_bytes.ensures, append-nil) refl) c.push.ensures c.push_hex.ensures c.push-2.ensures c.push_told.ensures

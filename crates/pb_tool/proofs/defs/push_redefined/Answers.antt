use Rattle.std.proofs.Common.{refl}
use Rattle.std.proofs.lemmas.List.{append-nil}
use Rattle.pb_io.proofs.PageLemmas.{Adds-three}
use Rattle.pb_tool.specs.Defs.{redefined_text}
use Rattle.pb_tool.proofs.defs.push_redefined.Goals as goal

pub returns : goal.returns
unfolding redefined_text
returns g c = Adds-three _ _ _ _ _ _ _ _ (simp (c.to_be_bytes.ensures, append-nil) refl) c.push_table.ensures c.push_hex.ensures c.push.ensures

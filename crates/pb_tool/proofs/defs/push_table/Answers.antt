use Rattle.std.proofs.Common.{refl}
use Rattle.std.proofs.lemmas.List.{append-nil, append_assoc}
use Rattle.pb_io.proofs.PageLemmas.{Adds-two, Adds-four}
use Rattle.pb_tool.specs.Defs.{table_text}
use Rattle.pb_tool.proofs.defs.push_table.Goals as goal

pub returns : goal.returns
unfolding table_text
returns g c =
    Adds-two _ _ _ _ _ _ (simp (c.bytes.ensures, c.from.ensures, c.to_be_bytes.ensures, append-nil, append_assoc) refl) c.push.ensures
    (Adds-four _ _ _ _ _ _ _ _ _ _ refl c.push_escaped.ensures c.put.ensures c.push_hex.ensures c.push-2.ensures)

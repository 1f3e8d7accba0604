-- A table is seen as its definition says.
use Rattle.std.proofs.Common.{sym, ◌∙◌}
use Rattle.pb_tdf.proofs.TableLemmas.{kept-view}
use Rattle.pb_tdf.proofs.table.Table.bytes.Goals as goal

pub returns-clause-defined : goal.returns-clause-defined
returns-clause-defined c = let k = c.self.invariant in (k.definition, k.is, sym c.self.view_is ∙ kept-view _ _ _ _ _ _ k)

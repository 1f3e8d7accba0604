use Rattle.std.proofs.Common.{refl}
use Rattle.pb_io.proofs.PageLemmas.{Adds-as}
use Rattle.pb_tool.specs.Input.{byte_text}
use Rattle.pb_tool.proofs.input.push_limit.Goals as goal

pub returns : goal.returns
unfolding byte_text
returns g c = Adds-as _ _ _ _ refl c.put.ensures

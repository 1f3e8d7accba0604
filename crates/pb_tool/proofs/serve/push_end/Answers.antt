use Rattle.pb_tool.specs.Serve.{end_text}
use Rattle.pb_tool.proofs.serve.push_end.Goals as goal

pub returns-in-LinkFault : goal.returns-in-LinkFault
unfolding end_text
returns-in-LinkFault g c = rw c.in-LinkFault.is c.push-in-LinkFault.ensures

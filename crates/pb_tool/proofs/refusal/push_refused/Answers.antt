use Rattle.std.proofs.Common.{ap, sym}
use Rattle.pb_io.proofs.PageLemmas.{Adds-as}
use Rattle.pb_tool.specs.Refusal.{refusal_text}
use Rattle.pb_tool.proofs.refusal.push_refused.Goals as goal

pub returns-in-Exists : goal.returns-in-Exists
unfolding refusal_text
returns-in-Exists g c = Adds-as _ _ _ _ (ap refusal_text (sym c.in-Exists.is)) c.push-in-Exists.ensures

pub returns-in-Format : goal.returns-in-Format
unfolding refusal_text
returns-in-Format g c = Adds-as _ _ _ _ (ap refusal_text (sym c.in-Format.is)) c.put.ensures

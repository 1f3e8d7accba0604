use Rattle.pb_value.proofs.EscapeLemmas.{length-name_text}
use Rattle.pb_value.proofs.escape.escape_into.Goals as goal

pub returns-clause-short : goal.returns-clause-short
returns-clause-short c = length-name_text c.args.bytes.now

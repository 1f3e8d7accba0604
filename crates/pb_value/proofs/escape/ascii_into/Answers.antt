use Rattle.pb_value.proofs.EscapeLemmas.{length-ascii_text}
use Rattle.pb_value.proofs.escape.ascii_into.Goals as goal

pub returns-clause-short : goal.returns-clause-short
returns-clause-short c = length-ascii_text c.args.bytes.now

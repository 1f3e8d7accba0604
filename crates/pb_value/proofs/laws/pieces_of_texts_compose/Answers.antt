use Rattle.pb_value.proofs.EscapeLemmas.{name_text-append, ascii_text-append, ascii_text-ended}
use Rattle.pb_value.proofs.laws.pieces_of_texts_compose.Goals as goal

pub returns-clause-names : goal.returns-clause-names
returns-clause-names c = name_text-append

pub returns-clause-ascii : goal.returns-clause-ascii
returns-clause-ascii c = ascii_text-append

pub returns-clause-ended : goal.returns-clause-ended
returns-clause-ended c = ascii_text-ended

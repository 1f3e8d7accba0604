use Rattle.pb_frame.proofs.CutLemmas.{pieces-pieces}
use Rattle.pb_frame.proofs.laws.law_pieces.Goals as goal

pub returns : goal.returns
returns c = pieces-pieces

use Rattle.pb_frame.proofs.FrameLemmas.{nullified}
use Rattle.pb_frame.proofs.laws.law_nullifier.Goals as goal

pub returns : goal.returns
returns c = nullified

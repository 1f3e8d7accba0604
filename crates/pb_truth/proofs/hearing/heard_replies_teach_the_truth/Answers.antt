use Rattle.pb_truth.proofs.HearingLemmas.{heard_sound}
use Rattle.pb_truth.proofs.hearing.heard_replies_teach_the_truth.Goals as goal

pub returns : goal.returns
returns c = heard_sound c.good_pieces_end_streams.ensures.ends

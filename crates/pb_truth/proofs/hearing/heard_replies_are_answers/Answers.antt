use Rattle.pb_truth.proofs.HearingLemmas.{heard_answer}
use Rattle.pb_truth.proofs.hearing.heard_replies_are_answers.Goals as goal

pub returns : goal.returns
returns c = heard_answer c.good_pieces_end_streams.ensures.ends

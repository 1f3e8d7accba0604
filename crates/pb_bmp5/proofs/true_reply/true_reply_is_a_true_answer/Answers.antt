use Rattle.pb_bmp5.proofs.TrueLemmas.{truth-read}
use Rattle.pb_bmp5.proofs.true_reply.true_reply_is_a_true_answer.Goals as goal

pub returns : goal.returns
returns c = truth-read

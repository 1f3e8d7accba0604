use Rattle.pb_serve.proofs.LawLemmas.{all_sent}
use Rattle.pb_serve.proofs.laws.what_a_server_sends.Goals as goal

pub returns : goal.returns
returns c = all_sent

use Rattle.pb_serve.proofs.LawLemmas.{sent_in_time, ends_in_time}
use Rattle.pb_serve.proofs.laws.what_a_server_sends_in_time.Goals as goal

pub returns-clause-moment : goal.returns-clause-moment
returns-clause-moment c = sent_in_time

pub returns-clause-end : goal.returns-clause-end
returns-clause-end c = ends_in_time

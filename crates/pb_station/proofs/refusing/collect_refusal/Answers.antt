use Rattle.pb_station.proofs.ReplyLemmas.{valid-collect, short-collect}
use Rattle.pb_station.proofs.refusing.collect_refusal.Goals as goal

pub returns-clause-fits : goal.returns-clause-fits
returns-clause-fits c = (valid-collect c.args.tran c.args.resp c.requires, short-collect c.args.tran c.args.resp c.requires)

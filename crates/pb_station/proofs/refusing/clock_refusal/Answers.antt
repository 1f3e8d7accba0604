use Rattle.pb_station.proofs.ReplyLemmas.{valid-clock, short-clock}
use Rattle.pb_station.proofs.refusing.clock_refusal.Goals as goal

pub returns-clause-fits : goal.returns-clause-fits
returns-clause-fits c = (valid-clock c.args.tran c.args.resp c.requires, short-clock c.args.tran c.args.resp c.requires)

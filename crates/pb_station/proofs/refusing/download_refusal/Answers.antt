use Rattle.pb_station.proofs.ReplyLemmas.{valid-download, short-download}
use Rattle.pb_station.proofs.refusing.download_refusal.Goals as goal

pub returns-clause-fits : goal.returns-clause-fits
returns-clause-fits c = (valid-download c.args.tran c.args.resp c.requires, short-download c.args.tran c.args.resp c.requires)

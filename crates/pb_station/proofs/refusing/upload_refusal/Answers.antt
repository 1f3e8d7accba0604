use Rattle.pb_station.proofs.ReplyLemmas.{valid-upload, short-upload}
use Rattle.pb_station.proofs.refusing.upload_refusal.Goals as goal

pub returns-clause-fits : goal.returns-clause-fits
returns-clause-fits c = (valid-upload c.args.tran c.args.resp c.requires, short-upload c.args.tran c.args.resp c.requires)

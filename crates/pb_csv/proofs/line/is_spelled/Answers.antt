use Rattle.pb_csv.proofs.LineLemmas.{time-spelled}
use Rattle.pb_csv.proofs.line.is_spelled.Goals as goal

pub returns : goal.returns
returns c rest = time-spelled _ rest c.ranges.sec c.ranges.nano

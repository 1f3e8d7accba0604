use Rattle.std.proofs.Common.{arith}
use Rattle.pb_station.proofs.LawLemmas.{all-settings}
use Rattle.pb_station.proofs.laws.settings_are_their_bytes.Goals as goal

pub returns : goal.returns
returns c = λ settings all. all-settings settings _ all (omega arith)

use Rattle.pb_csv.proofs.ColumnsLemmas.{HasNames-nothing}
use Rattle.pb_csv.proofs.columns.Columns.push_numbered.Goals as goal

pub loop-number-init : goal.loop-number-init
loop-number-init c names has = HasNames-nothing _ names has

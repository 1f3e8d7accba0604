use Rattle.pb_csv.proofs.ColumnsLemmas.{HasNames-push}
use Rattle.pb_csv.proofs.columns.Columns.push.Goals as goal

pub returns : goal.returns
returns c names has = HasNames-push _ _ names c.args.name.now has c.in_ok-push_next.ensures c.in_ok-push.ensures.items

use Rattle.pb_truth.proofs.TableLemmas.{each_once}
use Rattle.pb_truth.proofs.pairs.archives_have_each_table_once.Goals as goal

pub returns : goal.returns
returns c = each_once

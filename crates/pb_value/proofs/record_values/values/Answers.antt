use Rattle.pb_value.specs.Values.{shapes}
use Rattle.pb_value.proofs.ShapeLemmas.{record-bytes, record-texts, cut-whole}
use Rattle.pb_value.proofs.record_values.values.Goals as goal

pub invariant_of-result : goal.invariant_of-result
invariant_of-result c = record-bytes c.args.table.now c.args.bytes.now c.is_defined.ensures c.requires

pub returns-clause-texts : goal.returns-clause-texts
returns-clause-texts c = record-texts c.args.table.now c.args.bytes.now c.is_defined.ensures c.requires

pub returns-clause-whole : goal.returns-clause-whole
returns-clause-whole c = cut-whole (shapes c.args.table.now.fields) c.args.bytes.now (record-bytes c.args.table.now c.args.bytes.now c.is_defined.ensures c.requires)

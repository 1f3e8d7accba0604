use Rattle.std.proofs.Common.{rules}
use Rattle.pb_base.proofs.NameLemmas.{padded-new}
use Rattle.pb_base.proofs.name.Name.new.Goals as goal

pub invariant_of-result : goal.invariant_of-result
invariant_of-result c = padded-new c.args.bytes.now _ (search rules) c.copy_from_slice.ensures.after

use Rattle.std.proofs.Common.{arith}
use Rattle.pb_show.proofs.SpelledLemmas.{keys-none, keys-next, keys-every}
use Rattle.pb_show.proofs.message.push_keys.Goals as goal

pub loop-key-init : goal.loop-key-init
loop-key-init g c = keys-none _

pub loop-key-preserved : goal.loop-key-preserved
loop-key-preserved g c = keys-next c.args.keys.now c.loop-key.key-index _ _ _ _ c.loop-key-test.true c.loop-key.invariant c.push_key.ensures

pub returns : goal.returns
returns g c = keys-every c.args.keys.now c.loop-key.key-index _ _ (omega arith) c.loop-key.invariant

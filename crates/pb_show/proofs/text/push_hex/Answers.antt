use Rattle.pb_value.specs.Hex.{hex}
use Rattle.pb_show.proofs.SpelledLemmas.{Spelled-none, Spelled-more, Spelled-all, hex-spells, nil_by}
use Rattle.pb_show.proofs.text.push_hex.Goals as goal

pub loop-left-init : goal.loop-left-init
loop-left-init g c = Spelled-none hex hex-spells _ _

pub loop-left-preserved : goal.loop-left-preserved
loop-left-preserved g c =
    Spelled-more hex hex-spells _ c.loop-left.left.now _ _ _ _ _ _ c.loop-left.invariant c.split_at.ensures.front c.split_at.ensures.back c.push_digits.ensures

pub returns : goal.returns
returns g c = Spelled-all hex _ c.loop-left.left.now _ _ (nil_by c.is_empty.result c.loop-left.left.now c.is_empty.ensures c.loop-left-test.false) c.loop-left.invariant

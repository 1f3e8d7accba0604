use Rattle.pb_value.specs.Escape.{name_text}
use Rattle.pb_show.proofs.SpelledLemmas.{Spelled-none, Spelled-more, Spelled-all, name_text-spells, nil_by}
use Rattle.pb_show.proofs.text.push_escaped.Goals as goal

pub loop-left-init : goal.loop-left-init
loop-left-init g c = Spelled-none name_text name_text-spells _ _

pub loop-left-preserved : goal.loop-left-preserved
loop-left-preserved g c =
    Spelled-more name_text name_text-spells _ c.loop-left.left.now _ _ _ _ _ _ c.loop-left.invariant c.split_at.ensures.front c.split_at.ensures.back c.push_characters.ensures

pub returns : goal.returns
returns g c = Spelled-all name_text _ c.loop-left.left.now _ _ (nil_by c.is_empty.result c.loop-left.left.now c.is_empty.ensures c.loop-left-test.false) c.loop-left.invariant

use Rattle.std.proofs.Common.{sym, ◌∙◌}
use Rattle.std.specs.Prelude.{codes}
use Rattle.pb_script.proofs.LineLemmas.{after_same, name_next}
use Rattle.pb_script.proofs.line.read_table.Goals as goal

pub returns-in-None-name_until_space : goal.returns-in-None-name_until_space
returns-in-None-name_until_space c t rest is bytes =
    c.in-None-name_until_space.ensures t.name _ is.name (after_same (codes "table ") c.args.station.now _ _ (sym c.in-Some.ensures ∙ bytes))

pub returns-in-None-read_shape : goal.returns-in-None-read_shape
returns-in-None-read_shape c t rest is bytes =
    let named = c.in-Some-name_until_space in
    let one = after_same (codes "table ") c.args.station.now _ _ (sym c.in-Some.ensures ∙ bytes) in
    let name = name_next named.named.name t.name _ _ named.ensures.0 is.name (sym named.ensures.1 ∙ one) in
    c.in-None-read_shape.ensures t.shape rest is.shape name.1

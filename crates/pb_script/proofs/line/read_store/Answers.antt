use Rattle.std.proofs.Common.{sym, ◌∙◌}
use Rattle.std.specs.Prelude.{codes}
use Rattle.pb_script.proofs.LineLemmas.{after_same, name_next}
use Rattle.pb_script.proofs.line.read_store.Goals as goal

pub returns-in-None-name_until_space : goal.returns-in-None-name_until_space
returns-in-None-name_until_space c name n rest is small bytes =
    c.in-None-name_until_space.ensures name _ is (after_same (codes "store ") c.args.station.now _ _ (sym c.in-Some.ensures ∙ bytes))

pub returns-in-None-number_until : goal.returns-in-None-number_until
returns-in-None-number_until c name n rest is small bytes =
    let named = c.in-Some-name_until_space in
    let one = after_same (codes "store ") c.args.station.now _ _ (sym c.in-Some.ensures ∙ bytes) in
    let same = name_next named.named.name name _ _ named.ensures.0 is (sym named.ensures.1 ∙ one) in
    c.in-None-number_until.ensures n rest small same.1

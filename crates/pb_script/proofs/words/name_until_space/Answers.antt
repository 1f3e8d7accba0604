use Rattle.std.proofs.Common.{sym, ◌∙◌, subst}
use Rattle.pb_script.specs.Script.{IsScriptName}
use Rattle.pb_script.specs.ScriptText.{space}
use Rattle.pb_base.proofs.WordLemmas.{cut_one}
use Rattle.pb_script.proofs.LineLemmas.{name_lacks}
use Rattle.pb_script.proofs.words.name_until_space.Goals as goal

pub returns-in-None-name_of : goal.returns-in-None-name_of
returns-in-None-name_of c name rest is bytes =
    let halves = c.in-Some.ensures in
    let same = cut_one space c.in-Some.halves.before.now name _ rest (sym halves.0 ∙ bytes) halves.1 (name_lacks name is) in
    c.in-None-name_of.ensures (subst IsScriptName (sym same.0) is)

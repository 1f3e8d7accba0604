use Rattle.std.proofs.Common.{sym, ◌∙◌, subst, arith}
use Rattle.std.specs.Prelude.{codes}
use Rattle.std.proofs.lemmas.List.{append_cancel_left}
use Rattle.pb_script.specs.Script.{IsAddress}
use Rattle.pb_script.specs.ScriptText.{line_feed}
use Rattle.pb_base.proofs.WordLemmas.{number_next}
use Rattle.pb_script.proofs.line.read_self.Goals as goal

pub returns-in-None-number_until : goal.returns-in-None-number_until
returns-in-None-number_until c me rest is bytes =
    c.in-None-number_until.ensures me rest (omega (arith, is)) (append_cancel_left (codes "self ") _ _ (sym c.in-Some.ensures ∙ bytes))

pub returns-in-None-address : goal.returns-in-None-address
returns-in-None-address c me rest is bytes =
    let one = append_cancel_left (codes "self ") _ _ (sym c.in-Some.ensures ∙ bytes) in
    let number = c.in-Some-number_until in
    let same = number_next number.number.n me line_feed _ _ number.ensures.0 (omega (arith, is)) (omega arith) (sym number.ensures.1 ∙ one) in
    c.in-None-address.ensures (subst IsAddress (sym same.0) is)

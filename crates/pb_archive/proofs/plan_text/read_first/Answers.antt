use Rattle.std.proofs.Common.{sym, ◌∙◌, arith}
use Rattle.std.specs.Prelude.{codes}
use Rattle.std.proofs.lemmas.List.{append_cancel_left}
use Rattle.pb_archive.specs.Plan.{space}
use Rattle.pb_base.proofs.WordLemmas.{number_next}
use Rattle.pb_archive.proofs.TextLemmas.{first_parts}
use Rattle.pb_archive.proofs.plan_text.read_first.Goals as goal

pub returns-in-None-after : goal.returns-in-None-after
returns-in-None-after c me via rest is it bytes =
    let one = append_cancel_left (codes "self ") _ _ (sym c.in-Some.ensures ∙ bytes ∙ first_parts me via rest) in
    let first = c.in-Some-address_until.ensures in
    let two = number_next c.in-Some-address_until.me.node me space _ _ (omega (arith, first.0)) (omega (arith, is)) (omega arith) (sym first.1 ∙ one) in
    c.in-None-after.ensures _ two.1

pub returns-in-None-address_until-2 : goal.returns-in-None-address_until-2
returns-in-None-address_until-2 c me via rest is it bytes =
    let one = append_cancel_left (codes "self ") _ _ (sym c.in-Some.ensures ∙ bytes ∙ first_parts me via rest) in
    let first = c.in-Some-address_until.ensures in
    let two = number_next c.in-Some-address_until.me.node me space _ _ (omega (arith, first.0)) (omega (arith, is)) (omega arith) (sym first.1 ∙ one) in
    let three = append_cancel_left (codes "via ") _ _ (sym c.in-Some-after.ensures ∙ two.1) in
    c.in-None-address_until-2.ensures via rest it three

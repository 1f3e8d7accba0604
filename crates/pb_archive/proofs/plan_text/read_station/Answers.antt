use Rattle.std.proofs.Common.{sym, ◌∙◌, subst, arith}
use Rattle.std.specs.Prelude.{codes}
use Rattle.std.proofs.lemmas.List.{append_cancel_left}
use Rattle.pb_archive.specs.Plan.{IsStation, space, line_feed}
use Rattle.pb_base.proofs.WordLemmas.{number_next, cut_one}
use Rattle.pb_archive.proofs.TextLemmas.{station_parts, name_lacks}
use Rattle.pb_archive.proofs.plan_text.read_station.Goals as goal

pub returns-in-None-short_until-2 : goal.returns-in-None-short_until-2
returns-in-None-short_until-2 c s more is bytes =
    let one = append_cancel_left (codes "station ") _ _ (sym c.in-Some.ensures ∙ bytes ∙ station_parts s more) in
    let two = number_next c.in-Some-short_until.addr.n s.addr space _ _ (omega (arith, c.in-Some-short_until.ensures.0)) (omega (arith, is.addr)) (omega arith) (sym c.in-Some-short_until.ensures.1 ∙ one) in
    c.in-None-short_until-2.ensures s.code _ is.code two.1

pub returns-in-None-cut_at : goal.returns-in-None-cut_at
returns-in-None-cut_at c s more is bytes =
    let one = append_cancel_left (codes "station ") _ _ (sym c.in-Some.ensures ∙ bytes ∙ station_parts s more) in
    let two = number_next c.in-Some-short_until.addr.n s.addr space _ _ (omega (arith, c.in-Some-short_until.ensures.0)) (omega (arith, is.addr)) (omega arith) (sym c.in-Some-short_until.ensures.1 ∙ one) in
    let three = number_next c.in-Some-short_until-2.code.n s.code space _ _ (omega (arith, c.in-Some-short_until-2.ensures.0)) (omega (arith, is.code)) (omega arith) (sym c.in-Some-short_until-2.ensures.1 ∙ two.1) in
    c.in-None-cut_at.ensures s.name more three.1

pub returns-in-None-station_of : goal.returns-in-None-station_of
returns-in-None-station_of c s more is bytes =
    let one = append_cancel_left (codes "station ") _ _ (sym c.in-Some.ensures ∙ bytes ∙ station_parts s more) in
    let two = number_next c.in-Some-short_until.addr.n s.addr space _ _ (omega (arith, c.in-Some-short_until.ensures.0)) (omega (arith, is.addr)) (omega arith) (sym c.in-Some-short_until.ensures.1 ∙ one) in
    let three = number_next c.in-Some-short_until-2.code.n s.code space _ _ (omega (arith, c.in-Some-short_until-2.ensures.0)) (omega (arith, is.code)) (omega arith) (sym c.in-Some-short_until-2.ensures.1 ∙ two.1) in
    let name = cut_one line_feed c.in-Some-cut_at.name.before.now s.name _ more (sym c.in-Some-cut_at.ensures.0 ∙ three.1) c.in-Some-cut_at.ensures.1 (name_lacks c.args.me s is) in
    c.in-None-station_of.ensures (subst (IsStation c.args.me) (λ j. record { addr = sym two.0 j; code = sym three.0 j; name = sym name.0 j }) is)

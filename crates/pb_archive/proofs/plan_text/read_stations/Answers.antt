use Rattle.std.proofs.Common.{sym, ◌∙◌, subst, arith}
use Rattle.pb_archive.specs.Plan.{IsBegun, with_station}
use Rattle.pb_archive.proofs.PlanLemmas.{with_is}
use Rattle.pb_archive.proofs.TextLemmas.{line_refused, station_line_one}
use Rattle.pb_archive.proofs.plan_text.read_stations.Goals as goal

pub returns-in-Err-Refused-clause-refused : goal.returns-in-Err-Refused-clause-refused
returns-in-Err-Refused-clause-refused c =
    let draft = c.loop-rest.draft in
    line_refused c.args.draft.now draft c.args.text.now c.loop-rest.rest.now c.loop-rest.line c.loop-rest.invariant (omega arith)
    (λ s more bytes begun.
    let same = station_line_one c.me.result draft.me c.in-Some.next.station s _ more c.in-Some.ensures.0 (with_is draft s begun) (sym c.in-Some.ensures.1 ∙ bytes) in
    c.in-Err-Refused.ensures.refused c.in-Err-Refused.field-0-is (subst (λ x. IsBegun (with_station draft x)) (sym same.0) begun))

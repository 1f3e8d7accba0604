use Rattle.std.proofs.Common.{sym, subst, ◌∙◌}
use Rattle.pb_archive.specs.Inside.{station}
use Rattle.pb_archive.specs.Plan.{IsStation, IsBegun, with_station}
use Rattle.pb_archive.proofs.BytesLemmas.{station_next, station_spelled}
use Rattle.pb_archive.proofs.PlanLemmas.{with_is}
use Rattle.pb_archive.proofs.plan_entry.read_station.Goals as goal

pub returns-in-None-clause-wrong : goal.returns-in-None-clause-wrong
returns-in-None-clause-wrong c is s rest bytes begun =
    let draft = c.args.draft.now in
    let read = c.in-Some.ensures.read in
    let one = with_is draft s begun in
    let same = station_next (station c.in-Some.next.addr c.in-Some.next.code c.in-Some.next.name.now) s _ rest read.spelled (station_spelled draft.me s one) (sym read.bytes ∙ bytes) in
    c.in-None.ensures (subst (λ t. IsStation c.me.result t) (sym same.0) (subst (λ m. IsStation m s) (sym c.me.ensures.me) one))

pub returns-in-Err-Refused-clause-wrong : goal.returns-in-Err-Refused-clause-wrong
returns-in-Err-Refused-clause-wrong c is s rest bytes begun =
    let draft = c.args.draft.now in
    let read = c.in-Some.ensures.read in
    let one = with_is draft s begun in
    let same = station_next (station c.in-Some.next.addr c.in-Some.next.code c.in-Some.next.name.now) s _ rest read.spelled (station_spelled draft.me s one) (sym read.bytes ∙ bytes) in
    c.in-Err-Refused.ensures.refused c.in-Err-Refused.field-0-is (subst (λ t. IsBegun (with_station draft t)) (sym same.0 ∙ sym c.in-Some-station_of.ensures.0) begun)

use Rattle.std.proofs.Common.{◌≡◌, arith, ◌+◌, refl, subst}
use Rattle.pb_journal.specs.Inside.{GateIs, part}
use Rattle.pb_journal.proofs.NextLemmas.{none_known, none_ahead, only_open, next_entry}
use Rattle.pb_journal.proofs.entries.next_body.Goals as goal

pub returns-then-place-gate-clause-next : goal.returns-then-place-gate-clause-next
returns-then-place-gate-clause-next g c f view bodies ahead = none_ahead f c.args.place c.args.gate bodies ahead c.if-place-gate.true

pub returns-in_default-clause-refused : goal.returns-in_default-clause-refused
returns-in_default-clause-refused g c = (
  none_known _ (λ f view.
      let ahead = c.requires.ahead f view in
      let opened_gate = only_open f c.args.place c.args.gate c.if-place-gate.false ahead.0 ahead.1 c.in_ok-size.field-0 (c.in_ok-size.ensures.gate f view (c.requires.shows f view)) in
      c.in_default.not-Open opened_gate.0 opened_gate.1),
  refl,
)

pub returns-then-size-ge-WINDOW-clause-refused : goal.returns-then-size-ge-WINDOW-clause-refused
returns-then-size-ge-WINDOW-clause-refused g c = (
  none_known _ (λ f view.
      let ahead = c.requires.ahead f view in
      let opened_gate = only_open f c.args.place c.args.gate c.if-place-gate.false ahead.0 ahead.1 c.in_ok-size.field-0 (c.in_ok-size.ensures.gate f view (c.requires.shows f view)) in
      let same : c.in-Open.size ≡ opened_gate.0 = cc (opened_gate.1, c.in-Open.is) in
      omega (arith, c.if-size-ge-WINDOW.true, opened_gate.2, same)),
  refl,
)

pub returns-clause-next : goal.returns-clause-next
returns-clause-next g c f view bodies ahead =
    next_entry f c.args.place c.args.gate c.if-place-gate.false bodies ahead c.in-Open.size
    (subst (GateIs (part f c.args.place (c.args.gate + 1))) c.in-Open.is (c.in_ok-size.ensures.gate f view (c.requires.shows f view)))

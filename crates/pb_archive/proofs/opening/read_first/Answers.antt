use Rattle.std.proofs.Common.{ℕ, sym, subst}
use Rattle.pb_archive.specs.Refusals.{IsMalformed}
use Rattle.pb_archive.proofs.OpeningLemmas.{none_created, plan_breaks, plan_read, refusal_is}
use Rattle.pb_archive.proofs.opening.read_first.Goals as goal

pub next-requires : goal.next-requires
next-requires g c f view = let begins = c.requires f view in (begins.bodies, begins.ahead)

pub returns-then-not-branch-clause-refused : goal.returns-then-not-branch-clause-refused
returns-then-not-branch-clause-refused g c f view =
    let begins = c.requires f view in
    none_created c.args.entries.now c.next.new.self c.args.journal.now.gate f begins c.in_ok-next.field-0 c.if-not-branch.true (c.in_ok-next.ensures.read f begins.bodies view begins.ahead)

pub returns-in-Err-clause-refused : goal.returns-in-Err-clause-refused
returns-in-Err-clause-refused g c =
    refusal_is _ c.in-Err.fault c.place-at.result c.refusal.result c.refusal.ensures
    (λ is f view.
    let begins = c.requires f view in
    subst (λ (n : ℕ). IsMalformed n f) (sym c.place-at.ensures)
    (plan_breaks c.args.entries.now c.next.new.self c.args.journal.now.gate f begins c.in_ok-next.field-0 c.if-not-branch.false (c.in_ok-next.ensures.read f begins.bodies view begins.ahead)
    c.body.result.now c.body.ensures (c.in-Err.ensures.wrong is)))

pub returns-in-Ok-new-clause-read : goal.returns-in-Ok-new-clause-read
returns-in-Ok-new-clause-read g c f view =
    let begins = c.requires f view in
    plan_read c.args.entries.now c.next.new.self c.args.journal.now.gate f begins c.in_ok-next.field-0 c.if-not-branch.false (c.in_ok-next.ensures.read f begins.bodies view begins.ahead)
    c.body.result.now c.body.ensures c.in-Ok.plan c.in-Ok-new.register c.in-Ok.ensures.read.0 c.in-Ok.ensures.read.1 c.in-Ok-new.ensures

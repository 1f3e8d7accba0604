use Rattle.std.proofs.Common.{ℕ, sym, ◌∙◌, subst}
use Rattle.pb_archive.specs.Inside.{AllowsHere}
use Rattle.pb_archive.specs.Refusals.{IsMalformed}
use Rattle.pb_archive.proofs.LeadsLemmas.{change_one}
use Rattle.pb_archive.proofs.OpeningLemmas.{all_read, entry_breaks, entry_read, refusal_is}
use Rattle.pb_archive.proofs.opening.read_next.Goals as goal

pub next-requires : goal.next-requires
next-requires g c f view = let so_far = c.requires f view in (so_far.rest, so_far.ahead)

pub returns-then-not-branch-clause-read : goal.returns-then-not-branch-clause-read
returns-then-not-branch-clause-read g c f view =
    let so_far = c.requires f view in
    all_read c.args.register.now c.args.entries.now c.next.new.self c.args.journal.now.gate f so_far c.in_ok-next.field-0 c.if-not-branch.true (c.in_ok-next.ensures.read f so_far.rest view so_far.ahead)

pub returns-then-not-take-clause-refused : goal.returns-then-not-take-clause-refused
returns-then-not-take-clause-refused g c f view =
    let so_far = c.requires f view in
    let read = c.in-Ok.ensures.read in
    subst (λ (n : ℕ). IsMalformed n f) (sym c.place-at.ensures)
    (entry_breaks c.args.register.now c.args.entries.now c.next.new.self c.args.journal.now.gate f so_far c.in_ok-next.field-0 c.if-not-branch.false (c.in_ok-next.ensures.read f so_far.rest view so_far.ahead)
    c.body.result.now c.body.ensures
    (λ said spelled bytes allows.
    let same = change_one said read.0 spelled read.2 (sym bytes ∙ read.3) in
    c.take.ensures.refused c.if-not-take.true read.0 read.1 (subst (AllowsHere c.args.register.now) same allows)))

pub returns-in-Err-clause-refused : goal.returns-in-Err-clause-refused
returns-in-Err-clause-refused g c =
    refusal_is _ c.in-Err.fault c.place-at.result c.refusal.result c.refusal.ensures
    (λ is f view.
    let so_far = c.requires f view in
    subst (λ (n : ℕ). IsMalformed n f) (sym c.place-at.ensures)
    (entry_breaks c.args.register.now c.args.entries.now c.next.new.self c.args.journal.now.gate f so_far c.in_ok-next.field-0 c.if-not-branch.false (c.in_ok-next.ensures.read f so_far.rest view so_far.ahead)
    c.body.result.now c.body.ensures (λ said spelled bytes allows. c.in-Err.ensures.wrong is said spelled bytes)))

pub returns-else-not-take-clause-read : goal.returns-else-not-take-clause-read
returns-else-not-take-clause-read g c f view =
    let so_far = c.requires f view in
    let said = c.in-Ok.ensures.read in
    let taken = c.take.ensures.taken c.if-not-take.false said.0 said.1 in
    entry_read c.args.register.now c.args.entries.now c.next.new.self c.args.journal.now.gate f so_far c.in_ok-next.field-0 c.if-not-branch.false (c.in_ok-next.ensures.read f so_far.rest view so_far.ahead)
    c.body.result.now c.body.ensures said.0 c.take.new.self said.2 said.3 taken.0 taken.1

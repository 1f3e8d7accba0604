use Rattle.std.proofs.Common.{subst}
use Rattle.std.proofs.lemmas.Option.{slice_get_within}
use Rattle.pb_archive.specs.Inside as inside
use Rattle.pb_archive.proofs.held.Register.take.Goals as goal

pub returns-then-not-can_advance-clause-refused : goal.returns-then-not-can_advance-clause-refused
returns-then-not-can_advance-clause-refused c is said says allows =
    let same = subst (λ change. inside.Says change said) c.in-Advance.is says in
    let here = subst (inside.AllowsHere c.args.self.now) same allows in
    c.can_advance.ensures.off c.if-not-can_advance.true here.0 here.1 here.2

pub stop-requires : goal.stop-requires
stop-requires c = let going = c.is_going_on.ensures.on c.if-not-is_going_on.false in slice_get_within _ _ _ going.1.there

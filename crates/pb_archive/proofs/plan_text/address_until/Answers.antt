use Rattle.std.proofs.Common.{sym, ◌∙◌, subst, arith}
use Rattle.pb_archive.specs.Plan.{IsAddress}
use Rattle.pb_base.proofs.WordLemmas.{number_next}
use Rattle.pb_archive.proofs.plan_text.address_until.Goals as goal

pub returns-in-None-address : goal.returns-in-None-address
returns-in-None-address c n rest is bytes =
    let same = number_next c.in-Some.first.n n c.args.stop _ rest (omega (arith, c.in-Some.ensures.0)) (omega (arith, is)) c.requires (sym c.in-Some.ensures.1 ∙ bytes) in
    c.in-None-address.ensures (subst IsAddress (sym same.0) is)

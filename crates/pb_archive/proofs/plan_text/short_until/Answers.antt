use Rattle.std.proofs.Common.{sym, ◌∙◌, arith}
use Rattle.pb_base.proofs.WordLemmas.{number_next}
use Rattle.pb_archive.proofs.plan_text.short_until.Goals as goal

pub returns-then-number-from : goal.returns-then-number-from
returns-then-number-from c n rest small is =
    let number = c.in-Some.ensures in
    let same = number_next c.in-Some.number.n n c.args.stop _ rest number.0 (omega (arith, small)) c.requires (sym number.1 ∙ is) in
    omega (arith, same.0, small, c.if-number-from.true)

use Rattle.std.proofs.Common.{decimal, sym, ◌∙◌}
use Rattle.pb_base.proofs.WordLemmas.{cut_one, decimal_lacks}
use Rattle.pb_base.proofs.words.number_until.Goals as goal

pub returns-in-None-parse_decimal : goal.returns-in-None-parse_decimal
returns-in-None-parse_decimal c n rest small is =
    let halves = c.in-Some.ensures in
    c.in-None-parse_decimal.ensures n small (cut_one c.args.stop c.in-Some.halves.before.now (decimal n) _ rest (sym halves.0 ∙ is) halves.1 (decimal_lacks n c.args.stop small c.requires)).0

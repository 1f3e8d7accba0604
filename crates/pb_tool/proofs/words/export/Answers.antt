use Rattle.std.proofs.Common.{[], ◌∷◌, Option, map, codes, string_bytes, sym, ap, ◌∙◌, subst}
use Rattle.std.specs.Option.{option_map}
use Rattle.pb_tool.specs.Order.{order_of}
use Rattle.pb_tool.specs.Words.{ReadsCommand}
use Rattle.pb_tool.specs.declared.words.Command.{Command}
use Rattle.pb_tool.proofs.WordLemmas.{four_words, no_range}
use Rattle.pb_tool.proofs.words.export.Goals as goal

pub returns-in_err-numbers-in-len4 : goal.returns-in_err-numbers-in-len4
returns-in_err-numbers-in-len4 c =
    let given = map string_bytes c.args.given.now in
    let from = c.as_str-in-len4.result.now in
    let to = c.as_str-in-len4-2.result.now in
    let four = four_words string_bytes c.args.given.now c.from-item.result c.to-item.result c.in-len4.len_at_least c.in-len4.len_below c.from-item.is c.to-item.is in
    let split =
    four.2 ∙ ap (λ x. four.0 ∷ four.1 ∷ x ∷ string_bytes c.to-item.result ∷ []) (sym c.as_str-in-len4.ensures.value)
    ∙ ap (λ x. four.0 ∷ four.1 ∷ from ∷ x ∷ []) (sym c.as_str-in-len4-2.ensures.value) in
    subst (λ (r : Option Command). ReadsCommand (codes "export") given (option_map order_of r)) (sym c.from_residual.ensures)
    (no_range given four.0 four.1 from to split c.in_err-numbers-in-len4.ensures)

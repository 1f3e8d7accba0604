-- What follows the table decides.
use Rattle.std.proofs.Common.{◌≡◌, ◌<◌, length, ap, sym, ◌∙◌, arith}
use Rattle.std.proofs.lemmas.Bool.{eqb-true, eqb-false}
use Rattle.pb_tdf.specs.Definition.{table_bytes_max}
use Rattle.pb_tdf.proofs.RefusalLemmas.{limited, whole-found, whole-followed}
use Rattle.pb_tdf.proofs.table.Table.read_whole.Goals as goal

pub returns-then-not-is_empty-clause-refused : goal.returns-then-not-is_empty-clause-refused
returns-then-not-is_empty-clause-refused c =
    let new = c.next.new.items in
    let some : 0 < length new.left.rest = let n = eqb-false (length c.rest.result.now) 0 (sym c.is_empty.ensures ∙ c.if-not-is_empty.true) in omega (arith, n, ap length c.rest.ensures.rest) in
    whole-followed c.args.bytes.now c.in_ok-table.table c.new-items.result new c.at.result (λ i. omega (arith, c.type_inv.bytes i)) (c.new-items.ensures ∙ ap (λ u. limited u table_bytes_max) c.new.ensures) c.in_ok-table.ensures some c.at.ensures

pub returns-clause-found : goal.returns-clause-found
returns-clause-found c =
    let new = c.next.new.items in
    let none : length new.left.rest ≡ 0 = let n = eqb-true (length c.rest.result.now) 0 (sym c.is_empty.ensures ∙ c.if-not-is_empty.false) in omega (arith, n, ap length c.rest.ensures.rest) in
    whole-found c.args.bytes.now c.in_ok-table.table c.new-items.result new (λ i. omega (arith, c.type_inv.bytes i)) (c.new-items.ensures ∙ ap (λ u. limited u table_bytes_max) c.new.ensures) c.in_ok-table.ensures none

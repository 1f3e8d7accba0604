-- The tables so far, and what the next one does.
use Rattle.std.proofs.Common.{◌≡◌, ◌<◌, ℕ, [], ◌∷◌, ◌++◌, length, cond, true, sym, ap, subst, ◌∙◌, arith}
use Rattle.std.specs.Prelude.{is_ok}
use Rattle.std.proofs.lemmas.Bool.{eqb-false}
use Rattle.std.proofs.lemmas.Result.{err_from_is_err_and}
use Rattle.pb_tdf.specs.Inside.Passing.{TablesSoFar, IsStopped}
use Rattle.pb_tdf.specs.Order.{table_begins}
use Rattle.pb_tdf.specs.Places.{table_limit}
use Rattle.pb_tdf.specs.Refusal.{FileFault}
use Rattle.pb_tdf.proofs.FieldsLemmas.{HasCause-weaker}
use Rattle.pb_tdf.proofs.RefusalLemmas.{limited}
use Rattle.pb_tdf.proofs.FileLemmas.{more-tables, refused-after}
use Rattle.pb_tdf.proofs.definitions.Definitions.read_whole.Goals as goal

pub returns-in_err-table-clause-refused : goal.returns-in_err-table-clause-refused
returns-in_err-table-clause-refused c =
    let p = err_from_is_err_and c.from_residual.result c.from_residual.ensures.1 in
    let so = c.loop-items.invariant in
    let u = c.loop-items.items.left in
    let k : ℕ = c.len.result in
    let count : k ≡ length c.loop-items.tables.items = c.len.ensures ∙ c.loop-items.tables.ok.0 in
    let some : 0 < length u.rest = let n = eqb-false (length c.rest.result.now) 0 (sym c.is_empty.ensures ∙ c.loop-items-test.true) in omega (arith, n, ap length c.rest.ensures.rest) in
    rw (p.1, p.2)
    (HasCause-weaker (IsStopped (limited u (table_limit k u.at)) (table_begins u)) (FileFault c.args.bytes.now) c.in_err-table.field-0.0
    (λ f stopped. refused-after c.args.bytes.now u c.loop-items.tables.items k f so count some stopped) c.in_err-table.ensures)

pub loop-items-preserved : goal.loop-items-preserved
loop-items-preserved c =
    let so = c.loop-items.invariant in
    let u = c.loop-items.items.left in
    let tables = c.loop-items.tables.items in
    let t = c.in_ok-table.table in
    let k : ℕ = c.len.result in
    let count : k ≡ length tables = c.len.ensures ∙ c.loop-items.tables.ok.0 in
    let pushed : is_ok c.push.result ≡ true = sym c.map_err.ensures.variant ∙ ap is_ok c.in_ok-map_err.was in
    let more : c.push.new.self.items ≡ tables ++ t ∷ [] = c.push.ensures.items ∙ ap (λ b. cond b (tables ++ t ∷ []) tables) pushed in
    subst (λ x. TablesSoFar c.args.bytes.now c.next_table.new.items.left x) (sym more) (more-tables c.args.bytes.now u tables k c.next_table.new.items t so count c.in_ok-table.ensures).0

pub loop-items-smaller : goal.loop-items-smaller
loop-items-smaller c =
    let so = c.loop-items.invariant in
    let u = c.loop-items.items.left in
    let tables = c.loop-items.tables.items in
    let k : ℕ = c.len.result in
    let count : k ≡ length tables = c.len.ensures ∙ c.loop-items.tables.ok.0 in
    (more-tables c.args.bytes.now u tables k c.next_table.new.items c.in_ok-table.table so count c.in_ok-table.ensures).1

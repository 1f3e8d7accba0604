use Rattle.std.proofs.Common.{◌≡◌, ◌+◌, suc, ℕ, Some, sym, ap, subst, ◌∙◌, arith}
use Rattle.std.specs.Prelude.{slice_get}
use Rattle.std.proofs.lemmas.Option.{slice_get-get_or}
use Rattle.pb_station.specs.State.{TablesStandFor}
use Rattle.pb_script.specs.Inside.{filling}
use Rattle.pb_script.proofs.StationLemmas.{filling-next}
use Rattle.pb_script.proofs.filling.fill_table.Goals as goal

one_more : (n : ℕ) → suc n ≡ n + 1
one_more n = omega arith

pub returns-clause-filled : goal.returns-clause-filled
returns-clause-filled c =
    let t = c.index-tables-place.result in
    let at : slice_get c.args.tables.now c.args.place ≡ Some t = slice_get-get_or c.args.tables.now c.args.place t c.requires.there ∙ ap (λ x. Some x) (sym c.index-tables-place.is) in
    let all : c.loop-n.n ≡ t.stored = omega arith in
    let next = ap (λ (n : ℕ). filling c.args.tables.now c.args.place n) all ∙ filling-next c.args.tables.now c.args.place t at ∙ ap (λ (k : ℕ). filling c.args.tables.now k 0) (one_more c.args.place) in
    record { device = c.loop-n.invariant.filling.device; tables = subst (TablesStandFor c.loop-n.station.tables) next c.loop-n.invariant.filling.tables }

use Rattle.std.proofs.Common.{◌≡◌, List, ℕ, ◌∷◌, [], ◌++◌, sym, ap, ap₂, ◌∙◌, append-nil, arith, refl, length, take, drop}
use Rattle.pb_station.specs.Collect.{run_bytes}
use Rattle.pb_station.proofs.WrittenLemmas.{records-written, written-as, flag-of}
use Rattle.pb_station.proofs.copying.write_records.Goals as goal

pub returns-clause-written : goal.returns-clause-written
returns-clause-written c = λ all stands.
    let r = c.args.records in
    let head = c.copy_from_slice.new.self in
    let old = c.args.out.now in
    let eh = c.copy_from_slice.ensures.after ∙ c.records_head.ensures in
    let eight : length head ≡ 8 = ap length eh in
    let bytes = run_bytes c.args.held.now.layout (take r.count (drop r.first all)) in
    let flag = c.from.ensures ∙ flag-of c.args.more in
    written-as _ _ old _ _ _
    (ap₂ (λ (x y : List ℕ). x ++ y) eh (ap₂ (λ (x : List ℕ) (f : ℕ). x ++ f ∷ []) (sym (append-nil bytes)) flag)) refl
    (records-written head bytes old c.copy_run-len.new.out 8 c.copy_run-len.result c.from.result eight (omega arith) (c.copy_run-len.ensures.written all stands))

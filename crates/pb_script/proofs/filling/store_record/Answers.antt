use Rattle.std.proofs.Common.{◌≡◌, ◌≤◌, ◌*◌, ◌++◌, ℕ, Some, length, sym, ap, ◌∙◌, arith}
use Rattle.std.specs.Prelude.{slice_get}
use Rattle.std.proofs.lemmas.Option.{slice_get-get_or}
use Rattle.pb_base.specs.World.{StoredRecord}
use Rattle.pb_script.specs.declared.table.Kind.{Kind}
use Rattle.pb_script.specs.declared.table.Kind.TheVariants.{Fp2, Ascii}
use Rattle.pb_script.specs.Script.{width, step}
use Rattle.pb_script.specs.Station.{values_of, record_of, seconds}
use Rattle.pb_script.proofs.StationLemmas.{each-at, has_table, stored_one, time_fits, values-len}
use Rattle.pb_script.proofs.filling.store_record.Goals as goal

few_values : (k : Kind) (n : ℕ) → width k * n ≤ 16384 → n ≤ 16384
few_values Fp2 n le = omega arith
few_values Ascii n le = omega arith

pub put_values-requires : goal.put_values-requires
put_values-requires c =
    let t = c.index-tables-place.result in
    let at : slice_get c.args.tables.now c.args.place ≡ Some t = slice_get-get_or c.args.tables.now c.args.place t c.requires.there ∙ ap (λ x. Some x) (sym c.index-tables-place.is) in
    let is = each-at c.args.tables.now c.args.place t c.requires.each at in
    (omega (arith, c.requires.next t at, is.holds.few), few_values t.shape.kind t.shape.count is.shape.record_bytes)

pub time_of-time-requires : goal.time_of-time-requires
time_of-time-requires c =
    let t = c.index-tables-place.result in
    let at : slice_get c.args.tables.now c.args.place ≡ Some t = slice_get-get_or c.args.tables.now c.args.place t c.requires.there ∙ ap (λ x. Some x) (sym c.index-tables-place.is) in
    let is = each-at c.args.tables.now c.args.place t c.requires.each at in
    let second : c.from.result * c.step.result ≡ c.args.n * step t.shape.interval = λ j. c.from.ensures j * c.step.ensures.value j in
    omega (arith, second, time_fits t c.args.n (step t.shape.interval) is (c.requires.next t at), is.holds.last)

pub store-stored-requires : goal.store-stored-requires
store-stored-requires c =
    let t = c.index-tables-place.result in
    let at : slice_get c.args.tables.now c.args.place ≡ Some t = slice_get-get_or c.args.tables.now c.args.place t c.requires.there ∙ ap (λ x. Some x) (sym c.index-tables-place.is) in
    let bytes : c.deref.result.now ≡ values_of t.shape.kind c.args.n t.shape.count = c.deref.ensures.value ∙ c.in-Ok.ensures ∙ ap (λ l. l ++ values_of t.shape.kind c.args.n t.shape.count) c.clear.ensures.items in
    has_table c.args.station.now c.args.tables.now c.args.place c.args.n _ _ t (omega arith) at c.requires.filling (ap length bytes ∙ values-len t.shape.kind c.args.n t.shape.count)

pub returns-clause-stored : goal.returns-clause-stored
returns-clause-stored c =
    let t = c.index-tables-place.result in
    let at : slice_get c.args.tables.now c.args.place ≡ Some t = slice_get-get_or c.args.tables.now c.args.place t c.requires.there ∙ ap (λ x. Some x) (sym c.index-tables-place.is) in
    let is = each-at c.args.tables.now c.args.place t c.requires.each at in
    let bytes : c.deref.result.now ≡ values_of t.shape.kind c.args.n t.shape.count = c.deref.ensures.value ∙ c.in-Ok.ensures ∙ ap (λ l. l ++ values_of t.shape.kind c.args.n t.shape.count) c.clear.ensures.items in
    let r : StoredRecord = record { time = c.time_of-time.result; bytes = c.deref.result.now } in
    let same : r ≡ record_of t c.args.n = λ j. record { time = (c.time_of-time.ensures ∙ (λ i. seconds (c.from.ensures i * c.step.ensures.value i))) j; bytes = bytes j } in
    (stored_one c.args.station.now c.store-stored.new.self c.args.tables.now c.args.place c.args.n _ t r c.store-stored.result (omega arith) at (omega (arith, c.requires.next t at, is.holds.few)) c.requires.filling same c.store-stored.ensures).0

pub returns-clause-device : goal.returns-clause-device
returns-clause-device c =
    let t = c.index-tables-place.result in
    let at : slice_get c.args.tables.now c.args.place ≡ Some t = slice_get-get_or c.args.tables.now c.args.place t c.requires.there ∙ ap (λ x. Some x) (sym c.index-tables-place.is) in
    let is = each-at c.args.tables.now c.args.place t c.requires.each at in
    let bytes : c.deref.result.now ≡ values_of t.shape.kind c.args.n t.shape.count = c.deref.ensures.value ∙ c.in-Ok.ensures ∙ ap (λ l. l ++ values_of t.shape.kind c.args.n t.shape.count) c.clear.ensures.items in
    let r : StoredRecord = record { time = c.time_of-time.result; bytes = c.deref.result.now } in
    let same : r ≡ record_of t c.args.n = λ j. record { time = (c.time_of-time.ensures ∙ (λ i. seconds (c.from.ensures i * c.step.ensures.value i))) j; bytes = bytes j } in
    (stored_one c.args.station.now c.store-stored.new.self c.args.tables.now c.args.place c.args.n _ t r c.store-stored.result (omega arith) at (omega (arith, c.requires.next t at, is.holds.few)) c.requires.filling same c.store-stored.ensures).1

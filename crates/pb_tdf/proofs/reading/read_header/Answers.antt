-- Each exit is after the items that were read before it.
use Rattle.std.proofs.Common.{refl}
use Rattle.std.proofs.lemmas.Result.{err_from_is_err_and}
use Rattle.pb_tdf.proofs.HeaderLemmas.{none-read, name-read, size-read, type-read, into-read, interval-read, name-stops, size-stops, type-stops, into-stops, interval-stops}
use Rattle.pb_tdf.proofs.reading.read_header.Goals as goal

pub returns-in_err-name : goal.returns-in_err-name
returns-in_err-name c =
    let p = err_from_is_err_and c.from_residual.result c.from_residual.ensures.1 in
    let k0 = none-read c.args.items.now in
    rw (p.1, p.2) (name-stops c.args.items.now c.args.items.now c.args.items.now _ _ k0 c.in_err-name.ensures)

pub returns-in_err-size : goal.returns-in_err-size
returns-in_err-size c =
    let p = err_from_is_err_and c.from_residual-in_err-size.result c.from_residual-in_err-size.ensures.1 in
    let k0 = none-read c.args.items.now in
    let k1 = name-read c.args.items.now c.args.items.now c.text.new.self _ c.in_ok-name.name.now k0 c.in_ok-name.ensures in
    rw (p.1, p.2) (size-stops c.args.items.now c.text.new.self c.text.new.self _ _ k1 c.in_err-size.ensures)

pub returns-in_err-_time_type : goal.returns-in_err-_time_type
returns-in_err-_time_type c =
    let p = err_from_is_err_and c.from_residual-in_err-_time_type.result c.from_residual-in_err-_time_type.ensures.1 in
    let k0 = none-read c.args.items.now in
    let k1 = name-read c.args.items.now c.args.items.now c.text.new.self _ c.in_ok-name.name.now k0 c.in_ok-name.ensures in
    let k2 = size-read c.args.items.now c.text.new.self c.word.new.self _ c.in_ok-size.size k1 c.in_ok-size.ensures in
    rw (p.1, p.2) (type-stops c.args.items.now c.word.new.self c.word.new.self _ _ k2 c.in_err-_time_type.ensures)

pub returns-in_err-_into : goal.returns-in_err-_into
returns-in_err-_into c =
    let p = err_from_is_err_and c.from_residual-in_err-_into.result c.from_residual-in_err-_into.ensures.1 in
    let k0 = none-read c.args.items.now in
    let k1 = name-read c.args.items.now c.args.items.now c.text.new.self _ c.in_ok-name.name.now k0 c.in_ok-name.ensures in
    let k2 = size-read c.args.items.now c.text.new.self c.word.new.self _ c.in_ok-size.size k1 c.in_ok-size.ensures in
    let k3 = type-read c.args.items.now c.word.new.self c.byte.new.self _ c.in_ok-_time_type._time_type k2 c.in_ok-_time_type.ensures in
    rw (p.1, p.2) (into-stops c.args.items.now c.byte.new.self c.byte.new.self _ _ k3 c.in_err-_into.ensures)

pub returns-in_err-interval : goal.returns-in_err-interval
returns-in_err-interval c =
    let p = err_from_is_err_and c.from_residual-in_err-interval.result c.from_residual-in_err-interval.ensures.1 in
    let k0 = none-read c.args.items.now in
    let k1 = name-read c.args.items.now c.args.items.now c.text.new.self _ c.in_ok-name.name.now k0 c.in_ok-name.ensures in
    let k2 = size-read c.args.items.now c.text.new.self c.word.new.self _ c.in_ok-size.size k1 c.in_ok-size.ensures in
    let k3 = type-read c.args.items.now c.word.new.self c.byte.new.self _ c.in_ok-_time_type._time_type k2 c.in_ok-_time_type.ensures in
    let k4 = into-read c.args.items.now c.byte.new.self c.time.new.self _ c.in_ok-_into._into k3 c.in_ok-_into.ensures in
    rw (p.1, p.2) (interval-stops c.args.items.now c.time.new.self c.time.new.self _ _ k4 c.in_err-interval.ensures)

pub returns : goal.returns
returns c =
    let k0 = none-read c.args.items.now in
    let k1 = name-read c.args.items.now c.args.items.now c.text.new.self _ c.in_ok-name.name.now k0 c.in_ok-name.ensures in
    let k2 = size-read c.args.items.now c.text.new.self c.word.new.self _ c.in_ok-size.size k1 c.in_ok-size.ensures in
    let k3 = type-read c.args.items.now c.word.new.self c.byte.new.self _ c.in_ok-_time_type._time_type k2 c.in_ok-_time_type.ensures in
    let k4 = into-read c.args.items.now c.byte.new.self c.time.new.self _ c.in_ok-_into._into k3 c.in_ok-_into.ensures in
    let k5 = interval-read c.args.items.now c.time.new.self c.interval.new.self _ c.in_ok-interval.interval k4 c.in_ok-interval.ensures in
    record { table = _; passes = k5; no_fields = refl; name_len = refl; size = refl; interval = refl }

-- Each exit is after the items that were read before it.
use Rattle.std.proofs.Common.{refl, ap, length}
use Rattle.std.proofs.lemmas.Result.{err_from_is_err_and}
use Rattle.pb_tdf.specs.Order.{text_item}
use Rattle.pb_tdf.proofs.PassLemmas.{comes-then, stops-one}
use Rattle.pb_tdf.proofs.DescriptionLemmas.{name-read, aliases-read, processing-read, units-read, description-read, begin-read, processing-stops, units-stops, description-stops, begin-stops}
use Rattle.pb_tdf.proofs.reading.pass_description.Goals as goal

pub returns-in_err-name : goal.returns-in_err-name
returns-in_err-name c =
    let p = err_from_is_err_and c.from_residual.result c.from_residual.ensures.1 in
    rw (p.1, p.2) (λ d f. stops-one text_item c.args.items.now _ _ _ c.in_err-name.ensures refl)

pub returns-in_err-pass_texts : goal.returns-in_err-pass_texts
returns-in_err-pass_texts c =
    let p = err_from_is_err_and c.from_residual-in_err-pass_texts.result c.from_residual-in_err-pass_texts.ensures.1 in
    rw (p.1, p.2)
    (λ d f.
    let k1 = name-read _ _ c.text.new.self d f _ c.in_ok-name.ensures in
    comes-then _ _ _ _ _ k1.passes (c.in_err-pass_texts.ensures d k1.field))

pub returns-in_err-_processing : goal.returns-in_err-_processing
returns-in_err-_processing c =
    let p = err_from_is_err_and c.from_residual-in_err-_processing.result c.from_residual-in_err-_processing.ensures.1 in
    rw (p.1, p.2)
    (λ d f.
    let k1 = name-read _ _ c.text.new.self d f _ c.in_ok-name.ensures in
    let k2 = aliases-read _ _ _ d f _ k1 c.in_ok-pass_texts.ensures in
    processing-stops _ c.pass_texts.new.items c.pass_texts.new.items d f _ _ k2 c.in_err-_processing.ensures)

pub returns-in_err-_units : goal.returns-in_err-_units
returns-in_err-_units c =
    let p = err_from_is_err_and c.from_residual-in_err-_units.result c.from_residual-in_err-_units.ensures.1 in
    rw (p.1, p.2)
    (λ d f.
    let k1 = name-read _ _ c.text.new.self d f _ c.in_ok-name.ensures in
    let k2 = aliases-read _ _ _ d f _ k1 c.in_ok-pass_texts.ensures in
    let k3 = processing-read _ _ _ d f _ _ k2 c.in_ok-_processing.ensures in
    units-stops _ c.text-2.new.self c.text-2.new.self d f _ _ k3 c.in_err-_units.ensures)

pub returns-in_err-_description : goal.returns-in_err-_description
returns-in_err-_description c =
    let p = err_from_is_err_and c.from_residual-in_err-_description.result c.from_residual-in_err-_description.ensures.1 in
    rw (p.1, p.2)
    (λ d f.
    let k1 = name-read _ _ c.text.new.self d f _ c.in_ok-name.ensures in
    let k2 = aliases-read _ _ _ d f _ k1 c.in_ok-pass_texts.ensures in
    let k3 = processing-read _ _ _ d f _ _ k2 c.in_ok-_processing.ensures in
    let k4 = units-read _ _ _ d f _ _ k3 c.in_ok-_units.ensures in
    description-stops _ c.text-3.new.self c.text-3.new.self d f _ _ k4 c.in_err-_description.ensures)

pub returns-in_err-_begin : goal.returns-in_err-_begin
returns-in_err-_begin c =
    let p = err_from_is_err_and c.from_residual-in_err-_begin.result c.from_residual-in_err-_begin.ensures.1 in
    rw (p.1, p.2)
    (λ d f.
    let k1 = name-read _ _ c.text.new.self d f _ c.in_ok-name.ensures in
    let k2 = aliases-read _ _ _ d f _ k1 c.in_ok-pass_texts.ensures in
    let k3 = processing-read _ _ _ d f _ _ k2 c.in_ok-_processing.ensures in
    let k4 = units-read _ _ _ d f _ _ k3 c.in_ok-_units.ensures in
    let k5 = description-read _ _ _ d f _ _ k4 c.in_ok-_description.ensures in
    begin-stops _ c.text-4.new.self c.text-4.new.self d f _ _ k5 c.in_err-_begin.ensures)

pub returns : goal.returns
returns c d f =
    let k1 = name-read _ _ c.text.new.self d f _ c.in_ok-name.ensures in
    let k2 = aliases-read _ _ _ d f _ k1 c.in_ok-pass_texts.ensures in
    let k3 = processing-read _ _ _ d f _ _ k2 c.in_ok-_processing.ensures in
    let k4 = units-read _ _ _ d f _ _ k3 c.in_ok-_units.ensures in
    let k5 = description-read _ _ _ d f _ _ k4 c.in_ok-_description.ensures in
    let k6 = begin-read _ _ _ d f _ _ k5 c.in_ok-_begin.ensures in
    (k6.field, k6.passes, k6.same_kind, ap length k6.same_name)

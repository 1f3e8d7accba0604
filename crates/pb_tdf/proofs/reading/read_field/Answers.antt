-- Each exit is after the items that were read before it.
use Rattle.std.proofs.Common.{ℕ, arith, ap, ◌∙◌, ◌+◌, ◌-◌, ◌≡◌, refl, ne_eqb, eq-eqb}
use Rattle.std.proofs.lemmas.Result.{err_from_is_err_and}
use Rattle.pb_tdf.proofs.FieldLemmas.{type-stops, type-ends, type-read, description-stops, dimension-stops, subs-stop, field-read, room-left}
use Rattle.pb_tdf.proofs.reading.read_field.Goals as goal

pub returns-in_err-type_byte-clause-passes : goal.returns-in_err-type_byte-clause-passes
returns-in_err-type_byte-clause-passes c =
    let p = err_from_is_err_and c.from_residual.result c.from_residual.ensures.1 in
    let o0 = c.args.items.now in
    rw (p.1, p.2) (λ d f0 is. type-stops o0 o0 o0 o0 o0 c.args.start d f0 c.args.totals is 0 _ c.in_err-type_byte.ensures)

pub returns-then-type_byte-eq0-clause-passes : goal.returns-then-type_byte-eq0-clause-passes
returns-then-type_byte-eq0-clause-passes c d f0 is =
    let o0 = c.args.items.now in
    let o1 = c.type_byte.new.self in
    let n : ℕ = c.in_ok-type_byte.type_byte in
    type-ends o0 o1 o1 o1 o1 c.args.start d f0 c.args.totals is n c.in_ok-type_byte.ensures (eq-eqb n 0 c.if-type_byte-eq0.true)

pub returns-in_err-name_len-clause-passes : goal.returns-in_err-name_len-clause-passes
returns-in_err-name_len-clause-passes c =
    let p = err_from_is_err_and c.from_residual-in_err-name_len.result c.from_residual-in_err-name_len.ensures.1 in
    let o0 = c.args.items.now in
    let o1 = c.type_byte.new.self in
    let o2 = c.pass_description.new.items in
    let n : ℕ = c.in_ok-type_byte.type_byte in
    rw (p.1, p.2)
    (λ d f0 is.
    let k1 = type-read o0 o1 o2 o2 o2 c.args.start d f0 c.args.totals is n c.in_ok-type_byte.ensures (ne_eqb n 0 c.if-type_byte-eq0.false) in
    description-stops o0 o1 o2 o2 o2 c.args.start d f0 c.args.totals is n _ k1 c.in_err-name_len.ensures)

pub returns-in_err-dimension-clause-passes : goal.returns-in_err-dimension-clause-passes
returns-in_err-dimension-clause-passes c =
    let p = err_from_is_err_and c.from_residual-in_err-dimension.result c.from_residual-in_err-dimension.ensures.1 in
    let o0 = c.args.items.now in
    let o1 = c.type_byte.new.self in
    let o2 = c.pass_description.new.items in
    let o3 = c.dimension.new.self in
    let n : ℕ = c.in_ok-type_byte.type_byte in
    rw (p.1, p.2)
    (λ d f0 is.
    let k1 = type-read o0 o1 o2 o3 o3 c.args.start d f0 c.args.totals is n c.in_ok-type_byte.ensures (ne_eqb n 0 c.if-type_byte-eq0.false) in
    dimension-stops o0 o1 o2 o3 o3 c.args.start d f0 c.args.totals is n _ k1 c.in_ok-name_len.ensures _ c.in_err-dimension.ensures)

pub returns-in_err-pass_words-clause-passes : goal.returns-in_err-pass_words-clause-passes
returns-in_err-pass_words-clause-passes c =
    let p = err_from_is_err_and c.from_residual-in_err-pass_words.result c.from_residual-in_err-pass_words.ensures.1 in
    let o0 = c.args.items.now in
    let o1 = c.type_byte.new.self in
    let o2 = c.pass_description.new.items in
    let o3 = c.dimension.new.self in
    let o4 = c.pass_words.new.items in
    let n : ℕ = c.in_ok-type_byte.type_byte in
    rw (p.1, p.2)
    (λ d f0 is.
    let k1 = type-read o0 o1 o2 o3 o4 c.args.start d f0 c.args.totals is n c.in_ok-type_byte.ensures (ne_eqb n 0 c.if-type_byte-eq0.false) in
    subs-stop o0 o1 o2 o3 o4 c.args.start d f0 c.args.totals is n _ k1 c.in_ok-name_len.ensures _ _ c.in_ok-dimension.ensures _ c.in_err-pass_words.ensures)

pub returns-clause-passes : goal.returns-clause-passes
returns-clause-passes c d f0 is =
    let o0 = c.args.items.now in
    let o1 = c.type_byte.new.self in
    let o2 = c.pass_description.new.items in
    let o3 = c.dimension.new.self in
    let o4 = c.pass_words.new.items in
    let n : ℕ = c.in_ok-type_byte.type_byte in
    let k1 = type-read o0 o1 o2 o3 o4 c.args.start d f0 c.args.totals is n c.in_ok-type_byte.ensures (ne_eqb n 0 c.if-type_byte-eq0.false) in
    field-read o0 o1 o2 o3 o4 c.args.start d f0 c.args.totals is n _ k1 c.in_ok-name_len.ensures _ _ c.in_ok-dimension.ensures _ c.in_ok-pass_words.ensures (c.saturating_sub.ensures ∙ ap (λ (x : ℕ). x - c.args.start) c.at-at.ensures) refl refl

pub returns-clause-count : goal.returns-clause-count
returns-clause-count c = ap (λ t. t.fields) c.in_ok-dimension.ensures.1

pub returns-clause-room : goal.returns-clause-room
returns-clause-room c =
    let n : ℕ = c.in_ok-type_byte.type_byte in
    let room = room-left c.args.items.now c.type_byte.new.self c.args.totals.fields n c.in_ok-type_byte.ensures (ne_eqb n 0 c.if-type_byte-eq0.false) in
    let one : c.in_ok-dimension.totals.fields ≡ c.args.totals.fields + 1 = ap (λ t. t.fields) c.in_ok-dimension.ensures.1 in
    omega (arith, one, room)

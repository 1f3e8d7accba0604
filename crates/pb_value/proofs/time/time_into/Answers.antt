use Rattle.std.proofs.Common.{◌≡◌, ◌++◌, Some, None, IfOk, List, ℕ, w32, to_z, of_z, refl, subst, sym, ap, ◌∙◌, rules}
use Rattle.std.specs.Prelude.{OnErr}
use Rattle.std.proofs.lemmas.Int.{to_z-of_z}
use Rattle.pb_base.specs.Put.{IsWritten, DoesNotFit}
use Rattle.pb_value.specs.Hex.{hex}
use Rattle.pb_value.specs.TimeText.{part_of, since_1900, time_text}
use Rattle.pb_value.proofs.TimeLemmas.{length-time_text, second_is, time_text-parts, time_text-none}
use Rattle.pb_value.proofs.time.time_into.Goals as goal

parts : (c : goal.After-slice_known-in-Some-1) → c.date-date.result ++ c.clock-clock.result ++ c.where_any.result.now ≡ time_text c.args.time
parts c =
    let time = c.args.time in
    let nano : ℕ = c.in-Some.nano in
    let small : to_z w32 (of_z w32 time.nano) ≡ time.nano = to_z-of_z w32 _ (search rules) in
    let part : part_of time.nano ≡ Some nano = sym (rw small at c.part_of_second.ensures) ∙ c.in-Some.is in
    rw (c.date-date.ensures, c.clock-clock.ensures, c.where_any.ensures, c.fraction-fraction.ensures, c.from.ensures, second_is time.sec (search rules))
    (time_text-parts time nano (since_1900 time.sec) part refl)

pub returns-in-Some-clause-written : goal.returns-in-Some-clause-written
returns-in-Some-clause-written c =
    subst (λ (t : List ℕ). IfOk c.write_parts.result (IsWritten t c.args.out.now c.write_parts.new.out)) (parts c) c.write_parts.ensures.written

pub returns-in-Some-clause-full : goal.returns-in-Some-clause-full
returns-in-Some-clause-full c =
    subst (λ (t : List ℕ). OnErr c.write_parts.result (DoesNotFit t c.args.out.now c.write_parts.new.out)) (parts c) c.write_parts.ensures.full

wild : (c : goal.After-slice_known-in-None-1) → hex c.bytes_of.result ≡ time_text c.args.time
wild c =
    let time = c.args.time in
    let small : to_z w32 (of_z w32 time.nano) ≡ time.nano = to_z-of_z w32 _ (search rules) in
    let part : part_of time.nano ≡ None = sym (rw small at c.part_of_second.ensures) ∙ c.in-None.is in
    ap hex c.bytes_of.ensures ∙ time_text-none time part

pub returns-in-None-clause-written : goal.returns-in-None-clause-written
returns-in-None-clause-written c =
    subst (λ (t : List ℕ). IfOk c.hex_into.result (IsWritten t c.args.out.now c.hex_into.new.out)) (wild c) c.hex_into.ensures.written

pub returns-in-None-clause-full : goal.returns-in-None-clause-full
returns-in-None-clause-full c =
    subst (λ (t : List ℕ). OnErr c.hex_into.result (DoesNotFit t c.args.out.now c.hex_into.new.out)) (wild c) c.hex_into.ensures.full

pub returns-in-Some-clause-short : goal.returns-in-Some-clause-short
returns-in-Some-clause-short c = length-time_text c.args.time

pub returns-in-None-clause-short : goal.returns-in-None-clause-short
returns-in-None-clause-short c = length-time_text c.args.time

use Rattle.std.proofs.Common.{◌≡◌, ◌++◌, ◌-ℤ◌, pos, ap, ◌∙◌, w16, to_z, of_z, rules, codes}
use Rattle.std.proofs.lemmas.Int.{to_z-of_z}
use Rattle.jiff_core.specs.Date.{epoch_day}
use Rattle.jiff_core.proofs.DateLemmas.{civil}
use Rattle.pb_value.specs.TimeText.{digits}
use Rattle.pb_value.proofs.TimeLemmas.{date_text-is, day_fits}
use Rattle.pb_value.proofs.time.date.Goals as goal

pub returns : goal.returns
unfolding digits
returns c =
    let date = c.unwrap-date.result in
    let day : epoch_day date ≡ pos c.args.day -ℤ pos 25_567 = (rw (c.unwrap-date.ensures, c.from.ensures) at c.from_unix_epoch_day.ensures.value) ∙ day_fits c.args.day c.requires in
    let is = date_text-is c.args.day date.year date.month date.day (civil date) day c.requires in
    let year : to_z w16 (of_z w16 date.year) ≡ date.year = to_z-of_z w16 _ (search rules) in
    rw (c.digits.ensures, c.digits-2.ensures, c.digits-3.ensures)
    (rw (c.from-2.ensures, c.from-3.ensures, c.from-4.ensures, c.unsigned_abs.ensures.value, year) (ap (λ l. l ++ codes " ") is))

use Rattle.std.proofs.Common.{refl}
use Rattle.pb_value.specs.Hex.{hex}
use Rattle.pb_value.specs.TimeText.{time_text, second_text, date_text, month_text, clock_text, fraction_text, digits, year_of, day_of_year, month_of, day_of_month, last_begun, year_start, month_start}
use Rattle.pb_value.proofs.laws.known_times_have_their_texts.Goals as goal

pub returns-clause-begin : goal.returns-clause-begin
unfolding time_text second_text date_text month_text clock_text fraction_text digits year_of day_of_year month_of day_of_month last_begun year_start month_start hex
returns-clause-begin c = refl

pub returns-clause-zero : goal.returns-clause-zero
unfolding time_text second_text date_text month_text clock_text fraction_text digits year_of day_of_year month_of day_of_month last_begun year_start month_start hex
returns-clause-zero c = refl

pub returns-clause-before : goal.returns-clause-before
unfolding time_text second_text date_text month_text clock_text fraction_text digits year_of day_of_year month_of day_of_month last_begun year_start month_start hex
returns-clause-before c = refl

pub returns-clause-leap_day : goal.returns-clause-leap_day
unfolding time_text second_text date_text month_text clock_text fraction_text digits year_of day_of_year month_of day_of_month last_begun year_start month_start hex
returns-clause-leap_day c = refl

pub returns-clause-wild : goal.returns-clause-wild
unfolding time_text second_text date_text month_text clock_text fraction_text digits year_of day_of_year month_of day_of_month last_begun year_start month_start hex
returns-clause-wild c = refl

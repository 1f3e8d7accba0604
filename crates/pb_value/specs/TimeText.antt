-- The text of a time: its date in the Gregorian calendar, its time of day, and the part of a second where there is one.
use Rattle.std.specs.Prelude.{ℕ, zero, suc, ◌+◌, ◌-◌, ◌*◌, ◌/◌, ◌%◌, ℤ, pos, negsuc, ◌+ℤ◌, unsigned_abs, List, [], ◌∷◌, ◌++◌, Bool, not, ◌&&◌, ◌||◌, ◌==◌, Option, Some, None, nat_lt, codes, if◌then◌else◌}
use Rattle.pb_base.specs.declared.nsec.Nsec.{Nsec}
use Rattle.pb_base.specs.Time.{time_bytes}
use Rattle.pb_value.specs.Hex.{hex}

-- ---- the calendar

-- every fourth year, but of the centuries only every fourth
abbrev pub is_leap : ℕ → Bool
is_leap year = (year % 4 == 0) && (not (year % 100 == 0) || (year % 400 == 0))

abbrev pub year_length : ℕ → ℕ
year_length year = if is_leap year then 366 else 365

-- thirty days have April, June, September and November
abbrev pub month_length : ℕ → ℕ → ℕ
month_length year month =
    if month == 2 then (if is_leap year then 29 else 28)
    else (if (month == 4) || (month == 6) || (month == 9) || (month == 11) then 30 else 31)

-- the day that a year begins on; years and days are counted from the begin of 1900
unfoldable pub year_start : ℕ → ℕ
year_start zero = 0
year_start (suc n) = year_start n + year_length (1900 + n)

-- the day of its year that a month begins on; months are counted from January, and days from its first
unfoldable pub month_start : ℕ → ℕ → ℕ
month_start year zero = 0
month_start year (suc n) = month_start year n + month_length year (suc n)

-- of the periods 0 to n the last that begins on or before the day, by the day that each begins on
unfoldable pub last_begun : (ℕ → ℕ) → ℕ → ℕ → ℕ
last_begun start zero day = 0
last_begun start (suc n) day = if nat_lt day (start (suc n)) then last_begun start n day else suc n

-- the year of a day before 2101, and the day's place in it, from 0
unfoldable pub year_of : ℕ → ℕ
year_of day = 1900 + last_begun year_start 200 day

unfoldable pub day_of_year : ℕ → ℕ
day_of_year day = day - year_start (last_begun year_start 200 day)

-- the month of the year, and the day's place in it, both from 0
unfoldable pub month_of : ℕ → ℕ → ℕ
month_of year day = last_begun (month_start year) 11 day

unfoldable pub day_of_month : ℕ → ℕ → ℕ
day_of_month year day = day - month_start year (month_of year day)

-- ---- the text

-- the last decimal digits of a number, as many as are asked for
unfoldable pub digits : ℕ → ℕ → List ℕ
digits zero n = []
digits (suc count) n = digits count (n / 10) ++ (48 + n % 10) ∷ []

-- `MM-DD` of a day of a year
unfoldable pub month_text : ℕ → ℕ → List ℕ
month_text year day = digits 2 (1 + month_of year day) ++ codes "-" ++ digits 2 (1 + day_of_month year day)

-- `YYYY-MM-DD` of a day since the begin of 1900
unfoldable pub date_text : ℕ → List ℕ
date_text day = digits 4 (year_of day) ++ codes "-" ++ month_text (year_of day) (day_of_year day)

-- `hh:mm:ss` of a second of a day
unfoldable pub clock_text : ℕ → List ℕ
clock_text second = digits 2 (second / 3600) ++ codes ":" ++ digits 2 (second / 60 % 60) ++ codes ":" ++ digits 2 (second % 60)

-- `YYYY-MM-DD hh:mm:ss` of a second since the begin of 1900
unfoldable pub second_text : ℕ → List ℕ
second_text second = date_text (second / 86400) ++ codes " " ++ clock_text (second % 86400)

-- the second, counted from the begin of 1900, of one that is counted from the begin of 1990
abbrev pub since_1900 : ℤ → ℕ
since_1900 second = unsigned_abs (second +ℤ pos (86400 * year_start 90))

-- `.` and nine digits, where the nanoseconds aren't 0
unfoldable pub fraction_text : ℕ → List ℕ
fraction_text nano = if nano == 0 then [] else codes "." ++ digits 9 nano

-- the nanoseconds, where they are less than a second
abbrev pub part_of : ℤ → Option ℕ
part_of (pos nano) = if nat_lt nano 1000000000 then Some nano else None
part_of (negsuc n) = None

-- where they aren't, the text is the bytes of the time, in hexadecimal
abbrev pub text_by : Nsec → Option ℕ → List ℕ
text_by time (Some nano) = second_text (since_1900 time.sec) ++ fraction_text nano
text_by time None = hex (time_bytes time)

unfoldable pub time_text : Nsec → List ℕ
time_text time = text_by time (part_of time.nano)

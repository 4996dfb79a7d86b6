-- The date of a day, in the Gregorian calendar. Years are counted from 1 March, so that a leap day
-- is the last day of its year.
use Rattle.std.specs.Prelude.{ℕ, ◌+◌, ◌-◌, ◌*◌, ◌/◌, ◌%◌, nat_lt, if◌then◌else◌}
use Rattle.conode_explain_text.specs.declared.dates.Date.{Date}

-- the days from 1 March of the year 0 to a day that is counted from 1 January 1970
abbrev pub days_from_march : ℕ → ℕ
days_from_march day = day + 719468

-- 400 years have 146,097 days
abbrev pub day_of_cycle : ℕ → ℕ
day_of_cycle day = days_from_march day % 146097

-- the year of 400 that a day is in: of 365 days, but for a leap day in each four years, none in a
-- hundred, one in 400
unfoldable pub year_of_cycle : ℕ → ℕ
year_of_cycle day = (((day - day / 1460) + day / 36524) - day / 146096) / 365

-- the day of that year, where 1 March is 0
unfoldable pub day_of_year : ℕ → ℕ → ℕ
day_of_year day year = (day + year / 100) - (365 * year + year / 4)

-- the month of a day of that year, where March is 0: five months from March on have 153 days, and
-- so have the next five
abbrev pub month_of_day : ℕ → ℕ
month_of_day day = (5 * day + 2) / 153

-- the days before a month
abbrev pub days_before_month : ℕ → ℕ
days_before_month month = (153 * month + 2) / 5

-- the date of a day of a year from March on
unfoldable pub date_in_year : ℕ → ℕ → Date
date_in_year year day =
    let month = month_of_day day in
    let of_month = (day + 1) - days_before_month month in
    if nat_lt month 10 then record { year = year; month = month + 3; day = of_month }
    else record { year = year + 1; month = month - 9; day = of_month }

-- the date of a day that is counted from 1 January 1970
unfoldable pub date_of : ℕ → Date
date_of day =
    let year = year_of_cycle (day_of_cycle day) in
    date_in_year (400 * (days_from_march day / 146097) + year) (day_of_year (day_of_cycle day) year)

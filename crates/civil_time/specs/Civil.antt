-- Moments as calendar and clock show them, and the sixteen digits YYYYMMDDhhmmsscc that say one.
use Rattle.std.specs.Prelude.{ℕ, zero, suc, ◌+◌, ◌-◌, ◌*◌, ◌/◌, ◌%◌, min, Bool, not, ◌&&◌, ◌||◌, ◌==◌, nat_lt, nat_le, if◌then◌else◌, List, ◌++◌, length, slice_index, Option, Some, None}
use Rattle.std.specs.List.{list_all}
use Rattle.gem_ids.specs.Names.{two_digits}

-- what calendar and clock show; months, and the days of a month, are counted from 1
pub record Civil : Type 0 where
  pub year : ℕ
  pub month : ℕ
  pub day : ℕ
  pub hour : ℕ
  pub minute : ℕ
  pub second : ℕ
  pub hundredth : ℕ

-- every fourth year is a leap year, but of the centuries only every fourth (Gregorian calendar)
abbrev pub is_leap_year : ℕ → Bool
is_leap_year year = (year % 4 == 0) && (not (year % 100 == 0) || (year % 400 == 0))

-- the days of a year (Gregorian calendar)
abbrev pub days_in_year : ℕ → ℕ
days_in_year year = if is_leap_year year then 366 else 365

-- the days of a month: thirty have April, June, September and November (Gregorian calendar)
abbrev pub days_in_month : ℕ → ℕ → ℕ
days_in_month year month =
    if month == 2 then (if is_leap_year year then 29 else 28)
    else (if (month == 4) || (month == 6) || (month == 9) || (month == 11) then 30 else 31)

-- how many leap years there are from the year 1 to this one, both included
abbrev pub leap_years_to : ℕ → ℕ
leap_years_to year = year / 4 - year / 100 + year / 400

-- the days from 1 January 2000 to 1 January of a year from 2000 on
abbrev pub days_before_year : ℕ → ℕ
days_before_year year = 365 * (year - 2000) + (leap_years_to (year - 1) - leap_years_to 1999)

-- the days of the first months of a year, as many as the number says
abbrev pub days_of_months : ℕ → ℕ → ℕ
days_of_months year zero = 0
days_of_months year (suc months) = days_of_months year months + days_in_month year (suc months)

-- the days from 1 January to the first of a month
abbrev pub days_before_month : ℕ → ℕ → ℕ
days_before_month year month = days_of_months year (month - 1)

-- the days from 1 January 2000 to a date
abbrev pub days_before : ℕ → ℕ → ℕ → ℕ
days_before year month day = days_before_year year + days_before_month year month + (day - 1)

-- the hundredths of a second from midnight to a time of day
abbrev pub since_midnight : ℕ → ℕ → ℕ → ℕ → ℕ
since_midnight hour minute second hundredth = hour * 360000 + minute * 6000 + second * 100 + hundredth

-- the moment of what calendar and clock show: hundredths of a second since 2000-01-01 00:00:00, where each day has 24
-- hours (this tool's profile, time)
abbrev pub moment_at : Civil → ℕ
moment_at c = days_before c.year c.month c.day * 8640000 + since_midnight c.hour c.minute c.second c.hundredth

-- the calendar has the date, in a year from 2000 to 9999
abbrev pub is_date : ℕ → ℕ → ℕ → Bool
is_date year month day =
    nat_le 2000 year && nat_le year 9999 && nat_le 1 month && nat_le month 12 && nat_le 1 day && nat_le day (days_in_month year month)

-- a clock shows the time of day; it has no leap seconds
abbrev pub is_time : ℕ → ℕ → ℕ → ℕ → Bool
is_time hour minute second hundredth = nat_lt hour 24 && nat_lt minute 60 && nat_lt second 60 && nat_lt hundredth 100

-- of `first` and so many numbers behind it, the last that starts on the day or before it
abbrev pub latest : (ℕ → ℕ) → ℕ → ℕ → ℕ → ℕ
latest starts day first zero = first
latest starts day first (suc more) =
    if nat_le (starts (first + suc more)) day then first + suc more else latest starts day first more

-- the year of a day, which is counted from 0 on 1 January 2000: a year has 365 days or 366
abbrev pub year_of : ℕ → ℕ
year_of day = latest days_before_year day (2000 + day / 366) (day / 365 - day / 366)

-- the place of the day in its year, from 0
abbrev pub day_of_year : ℕ → ℕ
day_of_year day = day - days_before_year (year_of day)

-- the month that has the day of a year, which is counted from 0: a month has 28 days or more
abbrev pub month_in_year : ℕ → ℕ → ℕ
month_in_year year day = latest (days_before_month year) day 1 (min 11 (day / 28))

-- the month of a day
abbrev pub month_of : ℕ → ℕ
month_of day = month_in_year (year_of day) (day_of_year day)

-- the place of the day in its month, from 1
abbrev pub day_of_month : ℕ → ℕ
day_of_month day = day_of_year day - days_before_month (year_of day) (month_of day) + 1

-- what calendar and clock show at a moment (this tool's profile, time)
abbrev pub civil_at : ℕ → Civil
civil_at moment = record {
  year = year_of (moment / 8640000);
  month = month_of (moment / 8640000);
  day = day_of_month (moment / 8640000);
  hour = moment / 360000 % 24;
  minute = moment / 6000 % 60;
  second = moment / 100 % 60;
  hundredth = moment % 100;
}

-- the sixteen digits YYYYMMDDhhmmsscc, in ASCII
abbrev pub digits_of : Civil → List ℕ
digits_of c =
    two_digits (c.year / 100) ++ two_digits (c.year % 100) ++ two_digits c.month ++ two_digits c.day
    ++ two_digits c.hour ++ two_digits c.minute ++ two_digits c.second ++ two_digits c.hundredth

-- the sixteen digits of a moment (this tool's profile, time)
abbrev pub time_digits : ℕ → List ℕ
time_digits moment = digits_of (civil_at moment)

-- an ASCII digit
abbrev pub is_digit : ℕ → Bool
is_digit byte = nat_le 48 byte && nat_le byte 57

-- the number that the two digits at a place and behind it write
abbrev pub two_at : List ℕ → ℕ → ℕ
two_at text place = 10 * (slice_index text place - 48) + (slice_index text (place + 1) - 48)

-- what sixteen digits write
abbrev pub civil_in : List ℕ → Civil
civil_in text = record {
  year = 100 * two_at text 0 + two_at text 2;
  month = two_at text 4;
  day = two_at text 6;
  hour = two_at text 8;
  minute = two_at text 10;
  second = two_at text 12;
  hundredth = two_at text 14;
}

-- calendar and clock show it, in a year from 2000 to 9999
abbrev pub is_civil : Civil → Bool
is_civil c = is_date c.year c.month c.day && is_time c.hour c.minute c.second c.hundredth

-- a text is sixteen digits that calendar and clock show
abbrev pub is_moment : List ℕ → Bool
is_moment text = (length text == 16) && list_all is_digit text && is_civil (civil_in text)

-- the moment that a text says, where it is sixteen digits of a civil moment (this tool's profile, time)
abbrev pub moment_in : List ℕ → Option ℕ
moment_in text = if is_moment text then Some (moment_at (civil_in text)) else None

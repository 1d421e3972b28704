-- What the tests of dates, times and digits say.
use Rattle.std.proofs.Common.{◌≡◌, ℕ, ◌<◌, ◌≤◌, true, arith}
use Rattle.std.proofs.lemmas.Bool.Decides.{nat_tests}
use Rattle.civil_time.specs.Civil.{days_in_month, is_date, is_time}

-- the calendar has the date
pub record IsDate (year month day : ℕ) : Type 0 where
  pub from : 2000 ≤ year
  pub last : year ≤ 9999
  pub first_month : 1 ≤ month
  pub last_month : month ≤ 12
  pub first_day : 1 ≤ day
  pub last_day : day ≤ days_in_month year month

pub date_true : (year month day : ℕ) → IsDate year month day → is_date year month day ≡ true
date_true year month day h = grind (arith, nat_tests, h.from, h.last, h.first_month, h.last_month, h.first_day, h.last_day)

pub date_parts : (year month day : ℕ) → is_date year month day ≡ true → IsDate year month day
date_parts year month day h =
    record {
      from = grind (arith, nat_tests);
      last = grind (arith, nat_tests);
      first_month = grind (arith, nat_tests);
      last_month = grind (arith, nat_tests);
      first_day = grind (arith, nat_tests);
      last_day = grind (arith, nat_tests);
    }

-- a clock shows the time
pub record IsTime (hour minute second hundredth : ℕ) : Type 0 where
  pub hours : hour < 24
  pub minutes : minute < 60
  pub seconds : second < 60
  pub hundredths : hundredth < 100

pub time_true : (hour minute second hundredth : ℕ) → IsTime hour minute second hundredth → is_time hour minute second hundredth ≡ true
time_true hour minute second hundredth h = grind (arith, nat_tests, h.hours, h.minutes, h.seconds, h.hundredths)

pub time_parts : (hour minute second hundredth : ℕ) → is_time hour minute second hundredth ≡ true → IsTime hour minute second hundredth
time_parts hour minute second hundredth h =
    record {
      hours = grind (arith, nat_tests);
      minutes = grind (arith, nat_tests);
      seconds = grind (arith, nat_tests);
      hundredths = grind (arith, nat_tests);
    }

-- The calendar of `jiff`, whose days are counted from 1 January 1970, is the one of the definitions.
use Rattle.std.proofs.Common.{◌≡◌, ℕ, zero, suc, ◌+◌, ◌-◌, ◌<◌, ◌≤◌, refl, sym, ap, ◌∙◌, arith, ◌^◌, w32, to_z, of_z, ℤ, pos, ◌+ℤ◌}
use Rattle.jiff_core.specs.Calendar as jiff
use Rattle.jiff_core.specs.Date.{epoch_day}
use Rattle.jiff_core.specs.declared.civil.date.Date.{Date}
use Rattle.jiff_core.proofs.SignedLemmas.{signed_arith, back_small}
use Rattle.jiff_core.proofs.CalendarLemmas.{days_from_civil-day_count, day_count-day_of_year}
use Rattle.jiff_core.proofs.DateLemmas.{epoch_day_injective, epoch_day_range}
use Rattle.jiff_core.proofs.MarchLemmas.{day_count-early}
use Rattle.civil_time.specs.Civil.{days_in_month, days_of_months, days_before, year_of, month_of, day_of_month}
use Rattle.std.specs.Int.{Width}
use mir.Val.{hbits}
use Rattle.civil_time.proofs.CivilTests.{IsDate}
use Rattle.civil_time.proofs.Calendar.{date_is, year_of_last}

same_month : (year month : ℕ) → jiff.days_in_month (pos year) month ≡ days_in_month year month
same_month year month = refl

same_months : (year months : ℕ) → jiff.days_of_months (pos year) months ≡ days_of_months year months
unfolding jiff.days_of_months
same_months year zero = refl
same_months year (suc months) = omega (arith, same_months year months, same_month year (suc months))

-- the day number of a date from 2000 on
pub days_from_epoch : (year month day : ℕ) → 2000 ≤ year → 1 ≤ day → jiff.days_from_civil (pos year) month day ≡ pos (10957 + days_before year month day)
days_from_epoch year month day from first =
    let n : pos year +ℤ pos 10000 ≡ pos (suc (year + 9999)) = omega (arith, signed_arith) in
    omega (arith, signed_arith, days_from_civil-day_count (pos year) month day, day_count-day_of_year (pos year) month day first, day_count-early (pos year) (year + 9999) 1 1 n (omega arith) (omega arith) (omega arith), same_months year (month - 1))

-- the date of a day, as jiff has it
date_of : (day : ℕ) → day ≤ 2921939 → Date
date_of day h =
    let is = date_is day in
    record {
      year = pos (year_of day);
      month = month_of day;
      day = day_of_month day;
      year_in = omega (arith, signed_arith, year_of_last day h);
      month_in = (is.first_month, is.last_month);
      day_in = (is.first_day, is.last_day);
    }

-- a date of jiff on the day has the parts of the definitions
pub date_on : (d : Date) (day : ℕ) → day ≤ 2921939 → epoch_day d ≡ pos (10957 + day) → (d.year ≡ pos (year_of day)) × (d.month ≡ month_of day) × (d.day ≡ day_of_month day)
unfolding date_of
date_on d day h e =
    let is = date_is day in
    epoch_day_injective d (date_of day h) (e ∙ sym (days_from_epoch (year_of day) (month_of day) (day_of_month day) is.from is.first_day ∙ ap (λ n. pos (10957 + n)) is.whole))

-- the day number of a date that jiff has with these parts
pub epoch_of : (d : Date) (year month day : ℕ) → d.year ≡ pos year → pos d.month ≡ pos month → pos d.day ≡ pos day → 2000 ≤ year → epoch_day d ≡ pos (10957 + days_before year month day)
epoch_of d year month day y m n from =
    let months : d.month ≡ month = cc in
    let days : d.day ≡ day = cc in
    let first : 1 ≤ day = omega (arith, d.day_in, days) in
    rw (y, months, days) (days_from_epoch year month day from first)

-- and it is a date of the definitions
pub date_found : (d : Date) (year month day : ℕ) → d.year ≡ pos year → pos d.month ≡ pos month → pos d.day ≡ pos day → 2000 ≤ year → year ≤ 9999 → IsDate year month day
date_found d year month day y m n from last =
    let months : d.month ≡ month = cc in
    let days : d.day ≡ day = cc in
    let in_month : d.day ≤ jiff.days_in_month d.year d.month = d.day_in.1 in
    let there : day ≤ days_in_month year month = rw (y, months, days) at in_month in
    record {
      from = from;
      last = last;
      first_month = omega (arith, d.month_in, months);
      last_month = omega (arith, d.month_in, months);
      first_day = omega (arith, d.day_in, days);
      last_day = there;
    }

-- and no later than the last day of 9999
pub day_bound : (d : Date) (day : ℕ) → epoch_day d ≡ pos (10957 + day) → day ≤ 2921939
day_bound d day e = omega (arith, signed_arith, e, epoch_day_range d)

-- a small number keeps its value in a signed type
pub small_signed : (w : Width) (n : ℕ) → n < 2 ^ hbits w → to_z w n ≡ pos n
small_signed w n h = back_small w (pos n) (omega arith)

-- a number that is not negative comes through the type of jiff's differences
pub through_i32 : (z : ℤ) (n : ℕ) → z ≡ pos n → n < 2 ^ 31 → to_z w32 (of_z w32 z) ≡ pos n
through_i32 z n e h = rw e (back_small w32 (pos n) (omega arith))

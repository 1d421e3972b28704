-- Years follow one another, months too, and each day has one date.
use Rattle.std.proofs.Common.{◌≡◌, ℕ, zero, suc, ◌+◌, ◌-◌, ◌*◌, ◌/◌, ◌<◌, ◌≤◌, min, inl, inr, Bool, true, false, nat_le, if◌then◌else◌, refl, arith}
use Rattle.std.proofs.lemmas.Bool.{cases_order}
use Rattle.std.proofs.lemmas.Bool.Decides.{nat_tests}
use Rattle.civil_time.specs.Civil.{days_in_year, days_in_month, days_before_year, days_of_months, days_before_month, days_before, latest, year_of, day_of_year, month_in_year, month_of, day_of_month}

-- ---- the latest that starts on the day or before it

either : {A : Type 0} (P : A → Type 0) (b : Bool) (x y : A) → (b ≡ true → P x) → (b ≡ false → P y) → P (if b then x else y)
either P true x y at_x at_y = at_x refl
either P false x y at_x at_y = at_y refl

-- it starts on the day or before it, and the next one later
abbrev pub IsLatest : (ℕ → ℕ) → ℕ → ℕ → ℕ → ℕ → Type 0
IsLatest starts day first last here = (starts here ≤ day) × (day < starts (here + 1)) × (first ≤ here) × (here ≤ last)

pub latest_is : (starts : ℕ → ℕ) (day first more : ℕ) → starts first ≤ day → day < starts (first + more + 1) → IsLatest starts day first (first + more) (latest starts day first more)
latest_is starts day first zero low high =
    let same : first + 0 ≡ first = omega arith in (low, rw same at high, omega arith, omega arith)
latest_is starts day first (suc more) low high =
    either (IsLatest starts day first (first + suc more)) (nat_le (starts (first + suc more)) day) _ _
    (λ t. (grind (arith, nat_tests), high, omega arith, omega arith))
    (λ f. let later : day < starts (first + suc more) = grind (arith, nat_tests) in
    let same : first + suc more ≡ first + more + 1 = omega arith in
    let rest = latest_is starts day first more low (rw same at later) in
    (rest.0, rest.1, rest.2, omega arith))

-- ---- years

pub year_follows : (year : ℕ) → 2000 ≤ year → days_before_year (year + 1) ≡ days_before_year year + days_in_year year
year_follows year h = grind (arith, nat_tests)

pub days_in_year_bounds : (year : ℕ) → (365 ≤ days_in_year year) × (days_in_year year ≤ 366)
days_in_year_bounds year = grind arith

days_before_year_bounds : (years : ℕ) → (365 * years ≤ days_before_year (2000 + years)) × (days_before_year (2000 + years) ≤ 366 * years)
days_before_year_bounds years = omega arith

years_later : (year k : ℕ) → 2000 ≤ year → days_before_year year ≤ days_before_year (year + k)
years_later year zero h = let same : year + 0 ≡ year = omega arith in rw same (omega arith)
years_later year (suc k) h =
    let same : year + suc k ≡ year + k + 1 = omega arith in
    rw same (omega (arith, years_later year k h, year_follows (year + k) (omega arith)))

years_before : (year later : ℕ) → 2000 ≤ year → year ≤ later → days_before_year year ≤ days_before_year later
years_before year later low h =
    let same : year + (later - year) ≡ later = omega arith in rw same at (years_later year (later - year) low)

-- the day lies in the year
abbrev pub IsInYear : ℕ → ℕ → Type 0
IsInYear day year = (2000 ≤ year) × (days_before_year year ≤ day) × (day < days_before_year (year + 1))

pub year_of_is : (day : ℕ) → IsInYear day (year_of day)
year_of_is day =
    let first = (days_before_year_bounds (day / 366)).1 in
    let last = (days_before_year_bounds (day / 365 + 1)).0 in
    let same : 2000 + day / 366 + (day / 365 - day / 366) + 1 ≡ 2000 + (day / 365 + 1) = omega arith in
    let high : day < days_before_year (2000 + (day / 365 + 1)) = omega arith in
    let is = latest_is days_before_year day (2000 + day / 366) (day / 365 - day / 366) (omega arith) (rw same high) in
    (omega arith, is.0, is.1)

pub one_year : (day year other : ℕ) → IsInYear day year → IsInYear day other → year ≡ other
one_year day year other h k =
    elim (cases_order year other) [
      | inl same ↦ same
      | inr (inl less) ↦ absurd (omega (arith, years_before (year + 1) other (omega arith) (omega arith)))
      | inr (inr more) ↦ absurd (omega (arith, years_before (other + 1) year (omega arith) (omega arith)))
    ]

-- the last day of 9999, counted from 0 on 1 January 2000, is 2,921,939
pub year_of_last : (day : ℕ) → day ≤ 2921939 → year_of day ≤ 9999
year_of_last day h =
    elim (cases_order 9999 (year_of day)) [
      | inl same ↦ omega arith
      | inr (inl less) ↦ absurd (omega (arith, years_before 10000 (year_of day) (omega arith) (omega arith), year_of_is day))
      | inr (inr more) ↦ omega arith
    ]

-- ---- months

pub days_in_month_bounds : (year month : ℕ) → (28 ≤ days_in_month year month) × (days_in_month year month ≤ 31)
days_in_month_bounds year month = grind arith

days_of_months_bounds : (year months : ℕ) → 28 * months ≤ days_of_months year months
days_of_months_bounds year zero = omega arith
days_of_months_bounds year (suc months) = omega (arith, days_of_months_bounds year months, days_in_month_bounds year (suc months))

pub months_of_a_year : (year : ℕ) → days_of_months year 12 ≡ days_in_year year
months_of_a_year year = grind (arith, nat_tests)

pub days_of_months_more : (year month : ℕ) → 1 ≤ month → days_of_months year month ≡ days_before_month year month + days_in_month year month
days_of_months_more year zero h = absurd (omega arith)
days_of_months_more year (suc month) h = let back : suc month - 1 ≡ month = omega arith in rw back refl

months_later : (year month k : ℕ) → days_of_months year month ≤ days_of_months year (month + k)
months_later year month zero = let same : month + 0 ≡ month = omega arith in rw same (omega arith)
months_later year month (suc k) =
    let same : month + suc k ≡ suc (month + k) = omega arith in rw same (omega (arith, months_later year month k))

months_before : (year month later : ℕ) → month ≤ later → days_of_months year month ≤ days_of_months year later
months_before year month later h =
    let same : month + (later - month) ≡ later = omega arith in rw same at (months_later year month (later - month))

-- the day of the year, counted from 0, lies in the month
abbrev pub IsInMonth : ℕ → ℕ → ℕ → Type 0
IsInMonth year day month = (1 ≤ month) × (month ≤ 12) × (days_before_month year month ≤ day) × (day < days_of_months year month)

month_after : (year day : ℕ) → day < days_in_year year → day < days_of_months year (min 11 (day / 28) + 1)
month_after year day h =
    elim (cases_order 11 (day / 28)) [
      | inl same ↦ let is : min 11 (day / 28) + 1 ≡ 12 = omega arith in rw is (omega (arith, months_of_a_year year))
      | inr (inl less) ↦ let is : min 11 (day / 28) + 1 ≡ 12 = omega arith in rw is (omega (arith, months_of_a_year year))
      | inr (inr more) ↦ let is : min 11 (day / 28) + 1 ≡ day / 28 + 1 = omega arith in rw is (omega (arith, days_of_months_bounds year (day / 28 + 1)))
    ]

pub month_in_year_is : (year day : ℕ) → day < days_in_year year → IsInMonth year day (month_in_year year day)
month_in_year_is year day h =
    let end : 1 + min 11 (day / 28) + 1 - 1 ≡ min 11 (day / 28) + 1 = omega arith in
    let high : day < days_of_months year (1 + min 11 (day / 28) + 1 - 1) = rw end (month_after year day h) in
    let is = latest_is (days_before_month year) day 1 (min 11 (day / 28)) (omega arith) high in
    let back : month_in_year year day + 1 - 1 ≡ month_in_year year day = omega arith in
    (is.2, omega arith, is.0, rw back at is.1)

pub one_month : (year day month other : ℕ) → IsInMonth year day month → IsInMonth year day other → month ≡ other
one_month year day month other h k =
    elim (cases_order month other) [
      | inl same ↦ same
      | inr (inl less) ↦ absurd (omega (arith, months_before year month (other - 1) (omega arith)))
      | inr (inr more) ↦ absurd (omega (arith, months_before year other (month - 1) (omega arith)))
    ]

-- ---- dates

-- the day, counted from 0 on 1 January 2000, has this date
pub record IsDated (day year month of_month : ℕ) : Type 0 where
  pub from : 2000 ≤ year
  pub first_month : 1 ≤ month
  pub last_month : month ≤ 12
  pub first_day : 1 ≤ of_month
  pub last_day : of_month ≤ days_in_month year month
  pub whole : days_before year month of_month ≡ day

dated : (day year month : ℕ) → IsInYear day year → IsInMonth year (day - days_before_year year) month →
    IsDated day year month (day - days_before_year year - days_before_month year month + 1)
dated day year month h k = record {
  from = h.0;
  first_month = k.0;
  last_month = k.1;
  first_day = omega arith;
  last_day = omega (arith, days_of_months_more year month k.0);
  whole = omega arith;
}

in_year : (day year : ℕ) → IsInYear day year → day - days_before_year year < days_in_year year
in_year day year h = omega (arith, year_follows year h.0)

-- each day has the date that the definitions compute
pub date_is : (day : ℕ) → IsDated day (year_of day) (month_of day) (day_of_month day)
date_is day =
    let year = year_of_is day in
    dated day (year_of day) (month_of day) year (month_in_year_is (year_of day) (day_of_year day) (in_year day (year_of day) year))

dated_month : (day year month of_month : ℕ) → IsDated day year month of_month → IsInMonth year (day - days_before_year year) month
dated_month day year month of_month h =
    (h.first_month, h.last_month, omega (arith, h.whole), omega (arith, h.whole, h.first_day, h.last_day, days_of_months_more year month h.first_month))

dated_year : (day year month of_month : ℕ) → IsDated day year month of_month → IsInYear day year
dated_year day year month of_month h =
    (h.from, omega (arith, h.whole), omega (arith, h.whole, h.first_day, h.last_day, year_follows year h.from, days_of_months_more year month h.first_month, months_before year month 12 h.last_month, months_of_a_year year))

pub dated_last : (day year month of_month : ℕ) → IsDated day year month of_month → year ≤ 9999 → day ≤ 2921939
dated_last day year month of_month h last =
    omega (arith, dated_year day year month of_month h, years_before (year + 1) 10000 (omega (arith, h.from)) (omega arith))

-- and no other
pub one_date : (day y m d year month of_month : ℕ) → IsDated day y m d → IsDated day year month of_month → (y ≡ year) × (m ≡ month) × (d ≡ of_month)
one_date day y m d year month of_month h k =
    let years : y ≡ year = one_year day y year (dated_year day y m d h) (dated_year day year month of_month k) in
    let there : IsInMonth year (day - days_before_year year) m = rw years at (dated_month day y m d h) in
    let months : m ≡ month = one_month year (day - days_before_year year) m month there (dated_month day year month of_month k) in
    let e : days_before_year y + days_before_month y m + (d - 1) ≡ day = h.whole in
    let f : days_before_year year + days_before_month year month + (d - 1) ≡ day = rw (years, months) at e in
    (years, months, omega (arith, f, h.first_day, k.first_day, k.whole))

-- What a text says, by its date and its time of day.
use Rattle.std.proofs.Common.{◌≡◌, ℕ, ◌+◌, ◌-◌, ◌*◌, ◌/◌, ◌%◌, ◌<◌, ◌≤◌, Bool, true, false, ◌&&◌, ◌==◌, if◌then◌else◌, List, [], ◌∷◌, ◌++◌, length, Some, None, refl, sym, ap, ◌∙◌, arith}
use Rattle.std.proofs.lemmas.Bool.Decides.{nat_tests}
use Rattle.std.specs.List.{list_all}
use Rattle.gem_ids.specs.Names.{two_digits}
use Rattle.gem_ids.specs.Moments.{last_moment}
use Rattle.civil_time.specs.Civil.{Civil, digits_of, civil_at, time_digits, year_of, month_of, day_of_month, is_date, is_time, is_digit, days_before, since_midnight, two_at, civil_in, moment_at, moment_in}
use Rattle.civil_time.proofs.CivilTests.{IsDate, IsTime, date_true, date_parts, time_true, time_parts}
use Rattle.civil_time.proofs.Calendar.{IsDated, date_is, one_date, year_of_last, dated_last, days_in_month_bounds}

none_by_date : (a b d t : Bool) (z x : ℕ) → None ≡ (if d then Some x else None) → None ≡ (if (a && b && (d && t)) then Some z else None)
none_by_date a b true t z x e = absurd (cc)
none_by_date true true false t z x e = refl
none_by_date true false false t z x e = refl
none_by_date false b false t z x e = refl

-- a text says no moment where it says no date
pub no_date : (text : List ℕ) (year month day : ℕ) → year ≡ 100 * two_at text 0 + two_at text 2 → month ≡ two_at text 4 → day ≡ two_at text 6 →
    None ≡ (if is_date year month day then Some (days_before year month day) else None) → None ≡ moment_in text
no_date text year month day p q r e =
    let c = civil_in text in
    let f = rw (p, q, r) at e in
    none_by_date (length text == 16) (list_all is_digit text) (is_date c.year c.month c.day) (is_time c.hour c.minute c.second c.hundredth) (moment_at c) (days_before c.year c.month c.day) f

none_by_time : (a b d t : Bool) (z x : ℕ) → None ≡ (if t then Some x else None) → None ≡ (if (a && b && (d && t)) then Some z else None)
none_by_time a b d true z x e = absurd (cc)
none_by_time true true true false z x e = refl
none_by_time true true false false z x e = refl
none_by_time true false d false z x e = refl
none_by_time false b d false z x e = refl

-- nor where it says no time of day
pub no_time : (text : List ℕ) (hour minute second hundredth : ℕ) → hour ≡ two_at text 8 → minute ≡ two_at text 10 → second ≡ two_at text 12 → hundredth ≡ two_at text 14 →
    None ≡ (if is_time hour minute second hundredth then Some (since_midnight hour minute second hundredth) else None) → None ≡ moment_in text
no_time text hour minute second hundredth p q r s e =
    let c = civil_in text in
    let f = rw (p, q, r, s) at e in
    none_by_time (length text == 16) (list_all is_digit text) (is_date c.year c.month c.day) (is_time c.hour c.minute c.second c.hundredth) (moment_at c) (since_midnight c.hour c.minute c.second c.hundredth) f

some_by_both : (a b d t : Bool) (z x y days clock : ℕ) → a ≡ true → b ≡ true → Some days ≡ (if d then Some x else None) → Some clock ≡ (if t then Some y else None) → x * 8640000 + y ≡ z →
    Some (days * 8640000 + clock) ≡ (if (a && b && (d && t)) then Some z else None)
some_by_both true true true true z x y days clock p q e f same = cc
some_by_both true true true false z x y days clock p q e f same = absurd (cc)
some_by_both true true false t z x y days clock p q e f same = absurd (cc)
some_by_both true false d t z x y days clock p q e f same = absurd (cc)
some_by_both false b d t z x y days clock p q e f same = absurd (cc)

-- and where it says both it says the moment
pub a_moment : (text : List ℕ) (year month day hour minute second hundredth days clock : ℕ) → length text ≡ 16 → list_all is_digit text ≡ true →
    year ≡ 100 * two_at text 0 + two_at text 2 → month ≡ two_at text 4 → day ≡ two_at text 6 →
    hour ≡ two_at text 8 → minute ≡ two_at text 10 → second ≡ two_at text 12 → hundredth ≡ two_at text 14 →
    Some days ≡ (if is_date year month day then Some (days_before year month day) else None) →
    Some clock ≡ (if is_time hour minute second hundredth then Some (since_midnight hour minute second hundredth) else None) →
    Some (days * 8640000 + clock) ≡ moment_in text
a_moment text year month day hour minute second hundredth days clock size digits p q r s t u v e f =
    let c = civil_in text in
    let date = rw (p, q, r) at e in
    let time = rw (s, t, u, v) at f in
    some_by_both (length text == 16) (list_all is_digit text) (is_date c.year c.month c.day) (is_time c.hour c.minute c.second c.hundredth) (moment_at c) (days_before c.year c.month c.day) (since_midnight c.hour c.minute c.second c.hundredth) days clock (rw size refl) digits date time refl

-- ---- the digits of a moment say it

two_back : (n : ℕ) → n < 100 → n ≡ 10 * (48 + n / 10 - 48) + (48 + n % 10 - 48)
two_back n h = omega arith

two_are_digits : (n : ℕ) (behind : List ℕ) → n < 100 → list_all is_digit behind ≡ true → list_all is_digit (two_digits n ++ behind) ≡ true
two_are_digits n behind h rest =
    let tens : is_digit (48 + n / 10) ≡ true = grind (arith, nat_tests) in
    let ones : is_digit (48 + n % 10) ≡ true = grind (arith, nat_tests) in
    rw (tens, ones) rest

-- the digits of a date and a time of day say their moment
digits_say : (c : Civil) → IsDate c.year c.month c.day → IsTime c.hour c.minute c.second c.hundredth → moment_in (digits_of c) ≡ Some (moment_at c)
digits_say c date time =
    let month : c.month < 100 = omega (arith, date.last_month) in
    let day : c.day < 100 = omega (arith, date.last_day, days_in_month_bounds c.year c.month) in
    let hour : c.hour < 100 = omega (arith, time.hours) in
    let minute : c.minute < 100 = omega (arith, time.minutes) in
    let second : c.second < 100 = omega (arith, time.seconds) in
    let century : c.year / 100 < 100 = omega (arith, date.last) in
    let of_century : c.year % 100 < 100 = omega arith in
    let year : c.year ≡ 100 * two_at (digits_of c) 0 + two_at (digits_of c) 2 = omega (arith, two_back (c.year / 100) century, two_back (c.year % 100) of_century) in
    let from_second = two_digits c.second ++ two_digits c.hundredth in
    let from_minute = two_digits c.minute ++ from_second in
    let from_hour = two_digits c.hour ++ from_minute in
    let from_day = two_digits c.day ++ from_hour in
    let from_month = two_digits c.month ++ from_day in
    let from_year = two_digits (c.year % 100) ++ from_month in
    let digits : list_all is_digit (digits_of c) ≡ true =
    two_are_digits (c.year / 100) from_year century (two_are_digits (c.year % 100) from_month of_century (two_are_digits c.month from_day month (two_are_digits c.day from_hour day
    (two_are_digits c.hour from_minute hour (two_are_digits c.minute from_second minute (two_are_digits c.second (two_digits c.hundredth) second (two_are_digits c.hundredth [] time.hundredths refl))))))) in
    sym (a_moment (digits_of c) c.year c.month c.day c.hour c.minute c.second c.hundredth
    (days_before c.year c.month c.day) (since_midnight c.hour c.minute c.second c.hundredth) refl digits
    year (two_back c.month month) (two_back c.day day) (two_back c.hour hour) (two_back c.minute minute) (two_back c.second second) (two_back c.hundredth time.hundredths)
    (rw (date_true c.year c.month c.day date) refl) (rw (time_true c.hour c.minute c.second c.hundredth time) refl))

date_at : (day : ℕ) → day ≤ 2921939 → IsDate (year_of day) (month_of day) (day_of_month day)
date_at day h =
    let is = date_is day in
    record { from = is.from; last = year_of_last day h; first_month = is.first_month; last_month = is.last_month; first_day = is.first_day; last_day = is.last_day }

clock_at : (moment : ℕ) → since_midnight (moment / 360000 % 24) (moment / 6000 % 60) (moment / 100 % 60) (moment % 100) ≡ moment % 8640000
clock_at moment = omega arith

moment_is : (moment : ℕ) → moment_at (civil_at moment) ≡ moment
moment_is moment =
    let is = date_is (moment / 8640000) in
    rw (is.whole, clock_at moment) (omega arith)

pub say_it : (moment : ℕ) → moment ≤ last_moment → moment_in (time_digits moment) ≡ Some moment
say_it moment h =
    let time : IsTime (moment / 360000 % 24) (moment / 6000 % 60) (moment / 100 % 60) (moment % 100) =
    record { hours = omega arith; minutes = omega arith; seconds = omega arith; hundredths = omega arith } in
    digits_say (civil_at moment) (date_at (moment / 8640000) (omega arith)) time ∙ ap Some (moment_is moment)

-- ---- a text that says a moment is its digits

parts_of : (a b d t : Bool) (z moment : ℕ) → (if (a && b && (d && t)) then Some z else None) ≡ Some moment → (a ≡ true) × (b ≡ true) × (d ≡ true) × (t ≡ true) × (z ≡ moment)
parts_of true true true true z moment e = (refl, refl, refl, refl, cc)
parts_of true true true false z moment e = absurd (cc)
parts_of true true false t z moment e = absurd (cc)
parts_of true false d t z moment e = absurd (cc)
parts_of false b d t z moment e = absurd (cc)

digits_same : (c e : Civil) → c.year ≡ e.year → c.month ≡ e.month → c.day ≡ e.day → c.hour ≡ e.hour → c.minute ≡ e.minute → c.second ≡ e.second → c.hundredth ≡ e.hundredth → digits_of c ≡ digits_of e
digits_same c e y m d h n s k = rw (y, m, d, h, n, s, k) refl

dated_as : (c : Civil) → IsDate c.year c.month c.day → IsDated (days_before c.year c.month c.day) c.year c.month c.day
dated_as c date = record { from = date.from; first_month = date.first_month; last_month = date.last_month; first_day = date.first_day; last_day = date.last_day; whole = refl }

civil_back : (c : Civil) → IsDate c.year c.month c.day → IsTime c.hour c.minute c.second c.hundredth → digits_of (civil_at (moment_at c)) ≡ digits_of c
civil_back c date time =
    let days = days_before c.year c.month c.day in
    let day : moment_at c / 8640000 ≡ days = omega (arith, time.hours, time.minutes, time.seconds, time.hundredths) in
    let one = one_date days (year_of days) (month_of days) (day_of_month days) c.year c.month c.day (date_is days) (dated_as c date) in
    digits_same (civil_at (moment_at c)) c (rw day one.0) (rw day one.1) (rw day one.2)
    (omega (arith, time.hours, time.minutes, time.seconds, time.hundredths)) (omega (arith, time.minutes, time.seconds, time.hundredths)) (omega (arith, time.seconds, time.hundredths)) (omega (arith, time.hundredths))

and_parts : (a b : Bool) → (a && b) ≡ true → (a ≡ true) × (b ≡ true)
and_parts true b h = (refl, h)
and_parts false b h = absurd (cc)

a_digit : (byte : ℕ) → is_digit byte ≡ true → (48 ≤ byte) × (byte ≤ 57)
a_digit byte h = grind (arith, nat_tests)

two_said : (n a b : ℕ) (xs ys : List ℕ) → ((48 ≤ a) → (a ≤ 57) → (48 ≤ b) → (b ≤ 57) → n ≡ 10 * (a - 48) + (b - 48)) → list_all is_digit (a ∷ b ∷ ys) ≡ true → (list_all is_digit ys ≡ true → xs ≡ ys) → two_digits n ++ xs ≡ a ∷ b ∷ ys
two_said n a b xs ys e digits rest =
    let first = and_parts (is_digit a) (list_all is_digit (b ∷ ys)) digits in
    let second = and_parts (is_digit b) (list_all is_digit ys) first.1 in
    let p = a_digit a first.0 in
    let q = a_digit b second.0 in
    let is : n ≡ 10 * (a - 48) + (b - 48) = e p.0 p.1 q.0 q.1 in
    let tens : 48 + n / 10 ≡ a = omega (arith, p, q, is) in
    let ones : 48 + n % 10 ≡ b = omega (arith, p, q, is) in
    rw (tens, ones, rest second.1) refl

two_below : (a b : ℕ) (ys : List ℕ) → list_all is_digit (a ∷ b ∷ ys) ≡ true → (10 * (a - 48) + (b - 48) < 100) × (list_all is_digit ys ≡ true)
two_below a b ys digits =
    let first = and_parts (is_digit a) (list_all is_digit (b ∷ ys)) digits in
    let second = and_parts (is_digit b) (list_all is_digit ys) first.1 in
    (omega (arith, a_digit a first.0, a_digit b second.0), second.1)

-- sixteen digits are those of what they write
digits_back : (text : List ℕ) → length text ≡ 16 → list_all is_digit text ≡ true → digits_of (civil_in text) ≡ text
digits_back (a ∷ b ∷ c ∷ d ∷ e ∷ f ∷ g ∷ h ∷ i ∷ j ∷ k ∷ l ∷ m ∷ n ∷ o ∷ p ∷ []) size digits =
    let behind = e ∷ f ∷ g ∷ h ∷ i ∷ j ∷ k ∷ l ∷ m ∷ n ∷ o ∷ p ∷ [] in
    let century = two_below a b (c ∷ d ∷ behind) digits in
    let year = two_below c d behind century.1 in
    let v = civil_in (a ∷ b ∷ c ∷ d ∷ behind) in
    let from_second = two_digits v.second ++ two_digits v.hundredth in
    let from_minute = two_digits v.minute ++ from_second in
    let from_hour = two_digits v.hour ++ from_minute in
    let from_day = two_digits v.day ++ from_hour in
    let from_month = two_digits v.month ++ from_day in
    let from_year = two_digits (v.year % 100) ++ from_month in
    two_said (v.year / 100) a b from_year (c ∷ d ∷ behind) (λ w x y z. omega (arith, year.0)) digits
    (λ more. two_said (v.year % 100) c d from_month behind (λ w x y z. omega (arith, year.0)) more
    (λ more. two_said v.month e f from_day (g ∷ h ∷ i ∷ j ∷ k ∷ l ∷ m ∷ n ∷ o ∷ p ∷ []) (λ w x y z. refl) more
    (λ more. two_said v.day g h from_hour (i ∷ j ∷ k ∷ l ∷ m ∷ n ∷ o ∷ p ∷ []) (λ w x y z. refl) more
    (λ more. two_said v.hour i j from_minute (k ∷ l ∷ m ∷ n ∷ o ∷ p ∷ []) (λ w x y z. refl) more
    (λ more. two_said v.minute k l from_second (m ∷ n ∷ o ∷ p ∷ []) (λ w x y z. refl) more
    (λ more. two_said v.second m n (two_digits v.hundredth) (o ∷ p ∷ []) (λ w x y z. refl) more
    (λ more. two_said v.hundredth o p [] [] (λ w x y z. refl) more (λ more. refl))))))))
digits_back _ size digits = absurd (omega arith)

moment_bound : (c : Civil) → IsDate c.year c.month c.day → IsTime c.hour c.minute c.second c.hundredth → moment_at c ≤ last_moment
moment_bound c date time =
    let days = dated_last (days_before c.year c.month c.day) c.year c.month c.day (dated_as c date) date.last in
    omega (arith, days, time.hours, time.minutes, time.seconds, time.hundredths)

pub its_digits : (text : List ℕ) (moment : ℕ) → moment_in text ≡ Some moment → (time_digits moment ≡ text) × (moment ≤ last_moment)
its_digits text moment e =
    let c = civil_in text in
    let parts = parts_of (length text == 16) (list_all is_digit text) (is_date c.year c.month c.day) (is_time c.hour c.minute c.second c.hundredth) (moment_at c) moment e in
    let size : length text ≡ 16 = grind (arith, nat_tests, parts.0) in
    let date = date_parts c.year c.month c.day parts.2 in
    let time = time_parts c.hour c.minute c.second c.hundredth parts.3 in
    (rw (← parts.4) (civil_back c date time ∙ digits_back text size parts.1), rw (← parts.4) (moment_bound c date time))

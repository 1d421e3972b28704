use Rattle.std.proofs.Common.{◌≡◌, ◌∙◌, ◌+◌, ◌<◌, ◌^◌, pos, arith, refl, to_z, of_z, w8, w32}
use mir.Syntax.{w16}
use Rattle.jiff.specs.Words.{epoch_day}
use Rattle.jiff.proofs.SpanFacts.{signed_arith}
use Rattle.civil_time.specs.Civil.{days_before}
use Rattle.civil_time.proofs.CivilTests.{IsDate, date_true}
use Rattle.civil_time.proofs.EpochDays.{epoch_of, date_found, day_bound, small_signed, through_i32}
use Rattle.civil_time.proofs.civil.days_to.Goals as goal

year : (c : goal.After-until) → c.in-Ok.found.year ≡ pos c.args.year
year c = c.in-Ok.ensures.value.0 ∙ small_signed w16 c.args.year (omega arith)

month : (c : goal.After-until) → pos c.in-Ok.found.month ≡ pos c.args.month
month c = c.in-Ok.ensures.value.1 ∙ small_signed w8 c.args.month (omega arith)

day : (c : goal.After-until) → pos c.in-Ok.found.day ≡ pos c.args.day
day c = c.in-Ok.ensures.value.2 ∙ small_signed w8 c.args.day (omega arith)

-- jiff's day number of the date
epoch : (c : goal.After-until) → epoch_day c.in-Ok.found ≡ pos (10957 + days_before c.args.year c.args.month c.args.day)
epoch c = epoch_of c.in-Ok.found c.args.year c.args.month c.args.day (year c) (month c) (day c) c.if-year-lt2000.false

days_small : (c : goal.After-until) → days_before c.args.year c.args.month c.args.day < 2 ^ 31
days_small c =
    let gap = rw c.to_plain.ensures at c.until.ensures.value in
    omega (arith, signed_arith, gap, epoch c, c.first_date.ensures, c.until.ensures.bound)

days : (c : goal.After-until) → to_z w32 (of_z w32 c.until.result) ≡ pos (days_before c.args.year c.args.month c.args.day)
days c =
    let gap = rw c.to_plain.ensures at c.until.ensures.value in
    let is : c.until.result ≡ pos (days_before c.args.year c.args.month c.args.day) = omega (arith, signed_arith, gap, epoch c, c.first_date.ensures) in
    through_i32 c.until.result (days_before c.args.year c.args.month c.args.day) is (days_small c)

date : (c : goal.After-until) → IsDate c.args.year c.args.month c.args.day
date c = date_found c.in-Ok.found c.args.year c.args.month c.args.day (year c) (month c) (day c) c.if-year-lt2000.false c.requires.year

pub overflow_cast-result : goal.overflow_cast-result
overflow_cast-result c = rw (days c) (tt, omega (arith, signed_arith, days_small c))

pub returns-in-Ok-clause-value : goal.returns-in-Ok-clause-value
returns-in-Ok-clause-value c = rw (days c, date_true _ _ _ (date c)) refl

pub returns-in-Ok-clause-last : goal.returns-in-Ok-clause-last
returns-in-Ok-clause-last c = rw (days c) (day_bound c.in-Ok.found (days_before c.args.year c.args.month c.args.day) (epoch c))

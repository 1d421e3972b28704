use Rattle.std.proofs.Common.{◌≡◌, ◌+◌, arith, w64, pos}
use Rattle.jiff.specs.Words.{epoch_day}
use Rattle.civil_time.proofs.EpochDays.{date_on, small_signed}
use Rattle.jiff.proofs.SpanFacts.{signed_arith}
use Rattle.civil_time.proofs.civil.date_after.Goals as goal

there : (c : goal.After-unwrap) → epoch_day c.unwrap.result ≡ pos (10957 + c.args.days)
there c =
    let sum = rw (c.unwrap.ensures, c.first_date.ensures, small_signed w64 c.args.days (omega arith)) at c.checked_add.ensures.value in
    omega (arith, signed_arith, sum)

pub returns-clause-year : goal.returns-clause-year
returns-clause-year c = (date_on c.unwrap.result c.args.days c.requires (there c)).0

pub returns-clause-month : goal.returns-clause-month
returns-clause-month c = (date_on c.unwrap.result c.args.days c.requires (there c)).1

pub returns-clause-day : goal.returns-clause-day
returns-clause-day c = (date_on c.unwrap.result c.args.days c.requires (there c)).2

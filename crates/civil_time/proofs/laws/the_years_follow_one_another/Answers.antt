use Rattle.civil_time.proofs.Calendar.{year_follows, months_of_a_year}
use Rattle.civil_time.proofs.laws.the_years_follow_one_another.Goals as goal

pub returns-clause-next : goal.returns-clause-next
returns-clause-next c = year_follows

pub returns-clause-months : goal.returns-clause-months
returns-clause-months c = months_of_a_year

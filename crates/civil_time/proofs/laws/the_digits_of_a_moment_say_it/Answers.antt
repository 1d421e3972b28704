use Rattle.civil_time.proofs.MomentTexts.{say_it}
use Rattle.civil_time.proofs.laws.the_digits_of_a_moment_say_it.Goals as goal

pub returns : goal.returns
returns c = say_it

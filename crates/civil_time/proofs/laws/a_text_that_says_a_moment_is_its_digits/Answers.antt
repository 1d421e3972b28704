use Rattle.civil_time.proofs.MomentTexts.{its_digits}
use Rattle.civil_time.proofs.laws.a_text_that_says_a_moment_is_its_digits.Goals as goal

pub returns-clause-digits : goal.returns-clause-digits
returns-clause-digits c text moment e = (its_digits text moment e).0

pub returns-clause-last : goal.returns-clause-last
returns-clause-last c text moment e = (its_digits text moment e).1

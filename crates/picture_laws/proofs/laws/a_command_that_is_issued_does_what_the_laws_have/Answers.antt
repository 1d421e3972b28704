use Rattle.picture_laws.proofs.Issuing.{issuing_agrees}
use Rattle.picture_laws.proofs.laws.a_command_that_is_issued_does_what_the_laws_have.Goals as goal

pub returns : goal.returns
returns c = issuing_agrees

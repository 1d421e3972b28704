use Rattle.picture_laws.proofs.Coming.{arriving_agrees}
use Rattle.picture_laws.proofs.laws.a_carrier_that_comes_does_what_the_laws_have.Goals as goal

pub returns : goal.returns
returns c = arriving_agrees

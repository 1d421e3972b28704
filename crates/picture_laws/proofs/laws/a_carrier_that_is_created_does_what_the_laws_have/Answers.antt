use Rattle.picture_laws.proofs.Coming.{creating_agrees}
use Rattle.picture_laws.proofs.laws.a_carrier_that_is_created_does_what_the_laws_have.Goals as goal

pub returns : goal.returns
returns c = creating_agrees

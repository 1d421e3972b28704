use Rattle.picture_laws.proofs.Registering.{registering_agrees}
use Rattle.picture_laws.proofs.laws.a_registration_does_what_the_laws_have.Goals as goal

pub returns : goal.returns
returns c = registering_agrees

use Rattle.history_parts.proofs.Registrations.{given_behind}
use Rattle.history_parts.proofs.laws.each_registration_has_the_next_number.Goals as goal

pub returns : goal.returns
returns c = given_behind

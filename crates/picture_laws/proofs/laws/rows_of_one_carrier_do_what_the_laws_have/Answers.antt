use Rattle.picture_laws.proofs.Coming.{verifying_agrees, accessing_agrees}
use Rattle.picture_laws.proofs.laws.rows_of_one_carrier_do_what_the_laws_have.Goals as goal

pub returns-clause-map : goal.returns-clause-map
returns-clause-map c = verifying_agrees

pub returns-clause-access : goal.returns-clause-access
returns-clause-access c = accessing_agrees

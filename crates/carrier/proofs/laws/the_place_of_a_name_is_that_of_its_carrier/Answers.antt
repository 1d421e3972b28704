use Rattle.records.proofs.Places.{place_is}
use Rattle.records.proofs.Apart.{changed_at}
use Rattle.carrier.specs.Carriers.{name_of, has_name}
use Rattle.carrier.proofs.laws.the_place_of_a_name_is_that_of_its_carrier.Goals as goal

pub returns-clause-within : goal.returns-clause-within
returns-clause-within c = λ name carriers place e. (place_is (has_name name) carriers place e).within

pub returns-clause-carrier : goal.returns-clause-carrier
returns-clause-carrier c = λ name carriers place e. (place_is (has_name name) carriers place e).found

pub returns-clause-change : goal.returns-clause-change
returns-clause-change c = λ name carriers place change e apart. changed_at name_of name change carriers place apart e

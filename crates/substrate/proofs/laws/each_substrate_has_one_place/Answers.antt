use Rattle.substrate.proofs.Standing.{found_there, found_by_name}
use Rattle.substrate.proofs.laws.each_substrate_has_one_place.Goals as goal

pub returns-clause-there : goal.returns-clause-there
returns-clause-there c = λ p sub r h e. found_there sub p.held r h.placed_apart e

pub returns-clause-alone : goal.returns-clause-alone
returns-clause-alone c = λ p sub loc h e. found_by_name sub loc p.held h.named_apart e

use Rattle.substrate.proofs.Standing.{found_number}
use Rattle.substrate.proofs.laws.each_number_was_given.Goals as goal

pub returns : goal.returns
returns c = λ p sub r h e. found_number sub 0 p.given p.held r h.numbered e

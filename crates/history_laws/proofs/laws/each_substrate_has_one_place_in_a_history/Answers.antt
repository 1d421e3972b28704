use Rattle.floor_laws.proofs.FloorPlaces.{one_place_sound}
use Rattle.history_laws.proofs.Placed.{run-placed, run-places-along}
use Rattle.history_laws.proofs.laws.each_substrate_has_one_place_in_a_history.Goals as goal

pub returns-clause-places : goal.returns-clause-places
returns-clause-places c = λ config entries h few run. one_place_sound h.floor (run-placed config entries h few run)

pub returns-clause-settling : goal.returns-clause-settling
returns-clause-settling c = run-places-along

pub returns-clause-registered : goal.returns-clause-registered
returns-clause-registered c = λ config entries h few run. (run-placed config entries h few run).base.registered

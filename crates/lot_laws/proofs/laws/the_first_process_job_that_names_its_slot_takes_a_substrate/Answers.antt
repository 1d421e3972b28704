use Rattle.lot_laws.proofs.First.{first_behind}
use Rattle.lot_laws.proofs.Standing.{first_takes}
use Rattle.lot_laws.proofs.Planned.{planned_route}
use Rattle.lot_laws.proofs.laws.the_first_process_job_that_names_its_slot_takes_a_substrate.Goals as goal

pub returns-clause-takes : goal.returns-clause-takes
returns-clause-takes c = λ number planned counted f n s before behind j t e found is left its names naming none.
    first_takes number planned counted f t e n s found is left j its (first_behind number f s before behind j.id names naming none)

pub returns-clause-route : goal.returns-clause-route
returns-clause-route c = λ number planned counted f n s before behind j t e found is left its names naming none.
    planned_route number planned counted f t e n s found is left j its (first_behind number f s before behind j.id names naming none)

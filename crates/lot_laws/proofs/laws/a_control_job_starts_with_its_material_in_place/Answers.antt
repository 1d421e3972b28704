use Rattle.lot_laws.proofs.Beginning.{executes_then, owed_then}
use Rattle.lot_laws.proofs.laws.a_control_job_starts_with_its_material_in_place.Goals as goal

pub returns-clause-executes : goal.returns-clause-executes
returns-clause-executes c = λ number row f d h t s u kept at starts its auto here. executes_then number row f h t s u kept d at starts its auto here

pub returns-clause-owed : goal.returns-clause-owed
returns-clause-owed c = λ number row f d h t s u kept at starts its auto here. owed_then number row f h t s u kept d at starts its auto here

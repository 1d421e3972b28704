use Rattle.floor_moves.proofs.Columns.{transported-keeps, needing-keeps}
use Rattle.floor_moves.proofs.Registering.{registered-keeps}
use Rattle.floor_moves.proofs.Carrying.{created-keeps, arrived-keeps, verified-keeps, jobs_say-keeps, forgotten-keeps}
use Rattle.floor_moves.proofs.laws.what_holds_is_kept_as_carriers_come_and_go.Goals as goal

pub returns-clause-created : goal.returns-clause-created
returns-clause-created c = λ g x v may. created-keeps g x may v

pub returns-clause-arrived : goal.returns-clause-arrived
returns-clause-arrived c = λ g x p v may. arrived-keeps g x p may v

pub returns-clause-verified : goal.returns-clause-verified
returns-clause-verified c = verified-keeps

pub returns-clause-registered : goal.returns-clause-registered
returns-clause-registered c = λ g x p k v may. registered-keeps g v x p k may

pub returns-clause-at_source : goal.returns-clause-at_source
returns-clause-at_source c = λ g n v. transported-keeps g n 0 v

pub returns-clause-needing : goal.returns-clause-needing
returns-clause-needing c = λ g n v e. needing-keeps g n e v

pub returns-clause-forgotten : goal.returns-clause-forgotten
returns-clause-forgotten c = λ g x v may. forgotten-keeps g v x may

pub returns-clause-jobs : goal.returns-clause-jobs
returns-clause-jobs c = λ g view v may. jobs_say-keeps g view may v

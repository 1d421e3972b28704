use Rattle.owed_laws.proofs.Decreasing.{pick-falls, place-falls, done_align-falls, stepped-falls, processed-falls}
use Rattle.owed_laws.proofs.laws.done_of_a_command_takes_one_off.Goals as goal

pub returns-clause-pick : goal.returns-clause-pick
returns-clause-pick c = λ planned counted g m n l d v fits u is t. pick-falls planned counted g v u fits m n l d is t

pub returns-clause-place : goal.returns-clause-place
returns-clause-place c = λ planned counted g m n l d v fits u is t. place-falls planned counted g v u fits m n l d is t

pub returns-clause-align : goal.returns-clause-align
returns-clause-align c = λ planned counted g m n d v u is t. done_align-falls planned counted g v u m n d is t

pub returns-clause-step : goal.returns-clause-step
returns-clause-step c = λ planned counted g m n d v reach fits u is t more. stepped-falls planned counted g v u fits m n d is t reach

pub returns-clause-last : goal.returns-clause-last
returns-clause-last c = λ planned counted g m n d v fits u is t last. processed-falls planned counted g v u fits m n d is t last

use Rattle.std.proofs.Common.{refl}
use Rattle.lot_laws.proofs.Answers.{done_moved-falls, stepped-falls, closed-executes, processed-falls}
use Rattle.floor_laws.proofs.EndRunning.{running_there}
use Rattle.lot_laws.proofs.laws.done_of_a_command_takes_one_off.Goals as goal

pub returns-clause-moved : goal.returns-clause-moved
returns-clause-moved c = λ number planned counted f m d fetched h e here other. done_moved-falls number planned counted f h e m d fetched here d.task refl other

pub returns-clause-stepped : goal.returns-clause-stepped
returns-clause-stepped c = λ number planned counted f m n d fetched sub recipe h routes rest e here q names goes.
    stepped-falls number planned counted f h e m d fetched here sub recipe q n names routes (running_there f h rest m d fetched here sub recipe q n names) goes

pub returns-clause-closed : goal.returns-clause-closed
returns-clause-closed c = λ number planned counted f m n d fetched sub recipe h e here q names stays. (closed-executes number planned counted f h e m d fetched here sub recipe q n names stays).0

pub returns-clause-closed_as_much : goal.returns-clause-closed_as_much
returns-clause-closed_as_much c = λ number planned counted f m n d fetched sub recipe h e here q names stays. (closed-executes number planned counted f h e m d fetched here sub recipe q n names stays).1

pub returns-clause-processed : goal.returns-clause-processed
returns-clause-processed c = λ number planned counted f n row d h unnamed e one starts at due last member. processed-falls number planned counted f e n h unnamed row d one starts at due last member

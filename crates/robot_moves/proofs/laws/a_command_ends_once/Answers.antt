use Rattle.std.proofs.Common.{refl}
use Rattle.robot_moves.specs.declared.module.Module.TheVariants.{Idle, Down}
use Rattle.robot_moves.proofs.Ending.{ends_once}
use Rattle.robot_moves.proofs.laws.a_command_ends_once.Goals as goal

pub returns-clause-done : goal.returns-clause-done
returns-clause-done c = ends_once Idle (λ n. refl)

pub returns-clause-failed : goal.returns-clause-failed
returns-clause-failed c = ends_once Down (λ n. refl)

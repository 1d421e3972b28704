use Rattle.history_laws.proofs.Working.{run-works, run-equipped}
use Rattle.history_laws.proofs.laws.a_command_is_open_in_a_history.Goals as goal

pub returns-clause-works : goal.returns-clause-works
returns-clause-works c = run-works

pub returns-clause-equipped : goal.returns-clause-equipped
returns-clause-equipped c = run-equipped

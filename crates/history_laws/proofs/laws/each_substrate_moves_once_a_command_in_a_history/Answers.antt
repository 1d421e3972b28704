use Rattle.history_laws.proofs.Moved.{run-moves, run-ends-once, run-given, run-removed}
use Rattle.history_laws.proofs.laws.each_substrate_moves_once_a_command_in_a_history.Goals as goal

pub returns-clause-moves : goal.returns-clause-moves
returns-clause-moves c = run-moves

pub returns-clause-ends : goal.returns-clause-ends
returns-clause-ends c = run-ends-once

pub returns-clause-given : goal.returns-clause-given
returns-clause-given c = λ config entries h n few run less. run-given config entries h few run n less

pub returns-clause-removed : goal.returns-clause-removed
returns-clause-removed c = run-removed

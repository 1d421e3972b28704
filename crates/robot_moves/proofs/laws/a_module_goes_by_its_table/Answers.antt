use Rattle.robot_moves.proofs.Ending.{idle_starts, given_after, done_after, failed_after, up_starts, down_after, down_starts, up_after}
use Rattle.robot_moves.proofs.laws.a_module_goes_by_its_table.Goals as goal

pub returns-clause-idle : goal.returns-clause-idle
returns-clause-idle c = idle_starts

pub returns-clause-given : goal.returns-clause-given
returns-clause-given c = given_after

pub returns-clause-done : goal.returns-clause-done
returns-clause-done c = done_after

pub returns-clause-failed : goal.returns-clause-failed
returns-clause-failed c = failed_after

pub returns-clause-up : goal.returns-clause-up
returns-clause-up c = up_starts

pub returns-clause-went_down : goal.returns-clause-went_down
returns-clause-went_down c = down_after

pub returns-clause-down : goal.returns-clause-down
returns-clause-down c = down_starts

pub returns-clause-came_up : goal.returns-clause-came_up
returns-clause-came_up c = up_after

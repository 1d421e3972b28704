use Rattle.floor_moves.proofs.Waiting.{command_is_open}
use Rattle.floor_moves.proofs.laws.a_command_is_open_while_work_is_left.Goals as goal

pub returns : goal.returns
returns c = command_is_open

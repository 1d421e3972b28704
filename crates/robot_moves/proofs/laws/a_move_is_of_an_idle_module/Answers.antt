use Rattle.robot_moves.proofs.Giving.{move_is}
use Rattle.robot_moves.proofs.laws.a_move_is_of_an_idle_module.Goals as goal

pub returns-clause-idle : goal.returns-clause-idle
returns-clause-idle c number views modules m e = (move_is number views modules m e).idle

pub returns-clause-number : goal.returns-clause-number
returns-clause-number c number views modules m e = (move_is number views modules m e).own

pub returns-clause-row : goal.returns-clause-row
returns-clause-row c number views modules m e = (move_is number views modules m e).one

use Rattle.work_laws.proofs.Working.{open_while_work}
use Rattle.work_laws.proofs.laws.a_command_is_open_while_work_is_left.Goals as goal

pub returns : goal.returns
returns c = open_while_work

use Rattle.tool_lock.specs.Passes.{pass_number}
use Rattle.shared_tool.specs.Chairs.{config_of}
use Rattle.shared_tool.specs.Seats.{table_of}
use Rattle.tool_crew.proofs.seats.look_seated.Given as goal

abbrev pub ghosts-look_at : goal.ghosts-look_at
ghosts-look_at g a = record { table = table_of a.shared.now; number = pass_number a.chair; config = config_of a.shared.now }

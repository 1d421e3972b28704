use Rattle.tool_lock.specs.Passes.{pass_number}
use Rattle.shared_tool.specs.Chairs.{config_of}
use Rattle.shared_tool.specs.Seats.{table_of}
use Rattle.tool_crew.proofs.seats.module_seated.Given as goal

abbrev pub ghosts-module_at : goal.ghosts-module_at
ghosts-module_at g a = record { table = table_of a.shared.now; number = pass_number a.chair; config = config_of a.shared.now }

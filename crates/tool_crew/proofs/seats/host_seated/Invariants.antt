use Rattle.tool_lock.specs.Passes.{pass_number}
use Rattle.shared_tool.specs.Chairs.{config_of}
use Rattle.shared_tool.specs.Seats.{table_of}
use Rattle.tool_crew.proofs.seats.host_seated.Given as goal

abbrev pub ghosts-host_at-J-Place : goal.ghosts-host_at-J-Place
ghosts-host_at-J-Place g a = record { table = table_of a.shared.now; number = pass_number a.first; config = config_of a.shared.now }

abbrev pub ghosts-host_at-L-Place : goal.ghosts-host_at-L-Place
ghosts-host_at-L-Place g a = record { table = table_of a.shared.now; number = pass_number a.second; config = config_of a.shared.now }

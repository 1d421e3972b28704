use Rattle.shop_floor.proofs.Shapes.{least_table}
use Rattle.shop_floor.proofs.Starts.{least_starts}
use Rattle.shop_floor.proofs.laws.a_ready_row_starts.Goals as goal

pub returns-clause-least : goal.returns-clause-least
returns-clause-least c = least_starts

pub returns-clause-table : goal.returns-clause-table
returns-clause-table c = least_table

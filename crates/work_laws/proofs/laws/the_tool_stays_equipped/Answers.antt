use Rattle.work_laws.proofs.Staying.{opening_equipped, row_equipped, fetched_equipped, shop_equipped, created_equipped, control_equipped}
use Rattle.work_laws.proofs.laws.the_tool_stays_equipped.Goals as goal

pub returns-clause-begins : goal.returns-clause-begins
returns-clause-begins c = opening_equipped

pub returns-clause-row : goal.returns-clause-row
returns-clause-row c = row_equipped

pub returns-clause-fetched : goal.returns-clause-fetched
returns-clause-fetched c = fetched_equipped

pub returns-clause-shop : goal.returns-clause-shop
returns-clause-shop c = shop_equipped

pub returns-clause-created : goal.returns-clause-created
returns-clause-created c = created_equipped

pub returns-clause-control : goal.returns-clause-control
returns-clause-control c = control_equipped

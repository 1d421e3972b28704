use Rattle.shop_floor.proofs.Keeps.{opening-valid, row-keeps, came-keeps}
use Rattle.shop_floor.proofs.Asked.{written-keeps}
use Rattle.shop_floor.proofs.laws.the_floor_stays_valid.Goals as goal

pub returns-clause-opening : goal.returns-clause-opening
returns-clause-opening c = opening-valid

pub returns-clause-fired : goal.returns-clause-fired
returns-clause-fired c = row-keeps

pub returns-clause-written : goal.returns-clause-written
returns-clause-written c = written-keeps

pub returns-clause-came : goal.returns-clause-came
returns-clause-came c = came-keeps

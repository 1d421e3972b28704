use Rattle.shop_floor.proofs.Marked.{marked-keeps, marked-left}
use Rattle.shop_floor.proofs.laws.a_mark_leaves_the_floor.Goals as goal

pub returns-clause-valid : goal.returns-clause-valid
returns-clause-valid c = marked-keeps

pub returns-clause-left : goal.returns-clause-left
returns-clause-left c = marked-left

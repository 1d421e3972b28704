use Rattle.data_variables.proofs.Keeping.{value_allowed}
use Rattle.data_variables.proofs.laws.each_value_is_in_range.Goals as goal

pub returns : goal.returns
returns c = value_allowed

use Rattle.data_variables.proofs.Keeping.{setting_keeps}
use Rattle.data_variables.proofs.laws.setting_keeps_constants.Goals as goal

pub returns : goal.returns
returns c = setting_keeps

use Rattle.data_variables.proofs.Sending.{sends}
use Rattle.data_variables.proofs.constants.Constants.namelist.Goals as goal

pub returns-clause-sendable : goal.returns-clause-sendable
returns-clause-sendable c = sends c.args.ids.now c.namelist_item.result c.namelist_item.ensures

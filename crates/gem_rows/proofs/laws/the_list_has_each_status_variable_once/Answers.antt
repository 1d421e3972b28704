use Rattle.gem_rows.specs.Variables.{status_rows}
use Rattle.gem_rows.proofs.StatusRows.{among_rows}
use Rattle.gem_rows.proofs.laws.the_list_has_each_status_variable_once.Goals as goal

pub returns-clause-each : goal.returns-clause-each
returns-clause-each c number = among_rows (status_rows 4 8) number

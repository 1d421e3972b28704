use Rattle.floor_laws.proofs.FloorRows.{least_sound, row_sound}
use Rattle.floor_laws.proofs.laws.it_is_kept_by_each_row.Goals as goal

pub returns-clause-ready : goal.returns-clause-ready
returns-clause-ready c = least_sound

pub returns-clause-alone : goal.returns-clause-alone
returns-clause-alone c = row_sound

use Rattle.gem_rows.proofs.EventRows.{row_again, ceid_again}
use Rattle.gem_rows.proofs.laws.a_row_and_its_ceid_name_each_other.Goals as goal

pub returns-clause-row : goal.returns-clause-row
returns-clause-row c = row_again

pub returns-clause-ceid : goal.returns-clause-ceid
returns-clause-ceid c = ceid_again

use Rattle.history_laws.proofs.CalmInputs.{entry_calm}
use Rattle.history_laws.proofs.laws.an_input_of_which_no_row_disturbs_leaves_it_calm.Goals as goal

pub returns : goal.returns
returns c = entry_calm

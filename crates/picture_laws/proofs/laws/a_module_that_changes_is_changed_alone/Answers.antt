use Rattle.picture_laws.proofs.Closing.{closing_agrees}
use Rattle.picture_laws.proofs.laws.a_module_that_changes_is_changed_alone.Goals as goal

pub returns : goal.returns
returns c = closing_agrees

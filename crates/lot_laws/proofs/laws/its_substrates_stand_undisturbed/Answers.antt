use Rattle.lot_laws.proofs.Standing.{on_base, undisturbed}
use Rattle.lot_laws.proofs.laws.its_substrates_stand_undisturbed.Goals as goal

pub returns : goal.returns
returns c = λ number planned counted f h e. undisturbed number planned counted f (on_base f h.base) e

use Rattle.history_laws.proofs.Recording.{recorded-of}
use Rattle.history_laws.proofs.laws.what_is_recorded_holds.Goals as goal

pub returns : goal.returns
returns c = recorded-of

use Rattle.floor_moves.proofs.Agreeing.{agree-keeps}
use Rattle.floor_moves.proofs.laws.what_holds_is_said_of_what_is_kept.Goals as goal

pub returns : goal.returns
returns c = agree-keeps

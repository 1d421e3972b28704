use Rattle.std.proofs.Common.{refl}
use Rattle.floor_moves.specs.Floor.{idle}
use Rattle.floor_moves.specs.Effects.{turned}
use Rattle.floor_moves.proofs.Issuing.{turned-keeps}
use Rattle.floor_moves.proofs.Moving.{idle_not_busy}
use Rattle.floor_moves.proofs.Done.{closed-unnamed, finished-keeps, processed-keeps, stepped-keeps, stepped-reaches}
use Rattle.floor_moves.proofs.laws.what_holds_is_kept_as_steps_are_done.Goals as goal

pub returns-clause-step : goal.returns-clause-step
returns-clause-step c = λ g m n d v is t begun more. stepped-keeps g m n d is t begun more v

pub returns-clause-chambers : goal.returns-clause-chambers
returns-clause-chambers c = stepped-reaches

pub returns-clause-last : goal.returns-clause-last
returns-clause-last c = λ g m n d v is t. processed-keeps (turned m idle g) n (closed-unnamed g m n d idle idle_not_busy is t v) (turned-keeps g m idle idle_not_busy v)

pub returns-clause-aborted : goal.returns-clause-aborted
returns-clause-aborted c = λ g m n d v is t. finished-keeps (turned m idle g) n 3 refl (closed-unnamed g m n d idle idle_not_busy is t v) (turned-keeps g m idle idle_not_busy v)

use Rattle.std.proofs.Common.{sym, ◌∙◌}
use Rattle.robot_moves.proofs.Finding.{none_ready}
use Rattle.robot_moves.proofs.planner.Planner.next.Goals as goal

pub returns-clause-finds : goal.returns-clause-finds
returns-clause-finds c none number = none_ready c.args.places.now c.args.modules.now number (sym c.next_of.ensures ∙ none)

use Rattle.std.proofs.Common.{length}
use Rattle.tool_crew.proofs.seating.+first_end.Given as goal

abbrev pub decreases-first_end : goal.decreases-first_end
decreases-first_end g l = length l.seats.now

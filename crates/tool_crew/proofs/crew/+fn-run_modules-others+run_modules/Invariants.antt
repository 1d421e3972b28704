use Rattle.std.proofs.Common.{length, ℕ, ◌+◌, ◌*◌}
use Rattle.tool_crew.proofs.crew.+fn-run_modules-others+run_modules.Given as goal

abbrev pub decreases-others : goal.decreases-others
decreases-others g l = 2 * length l.rest.now + 1

abbrev pub decreases-run_modules : goal.decreases-run_modules
decreases-run_modules g l = 2 * length l.seats.now

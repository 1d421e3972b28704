use Rattle.std.proofs.Common.{◌≡◌, ◌-◌, drop}
use Rattle.tool_tasks.specs.Routes.{rises}
use Rattle.configuration.proofs.routes.rises.Given as goal

abbrev pub invariant-loop-number : goal.invariant-loop-number
invariant-loop-number l = rises l.route ≡ rises (drop (l.number - 1) l.route)

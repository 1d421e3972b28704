use Rattle.std.proofs.Common.{◌≡◌, nat_lt}
use Rattle.std.specs.List.{list_all}
use Rattle.tool_tasks.specs.Chambers.{chamber_list}
use Rattle.tool_tasks.specs.Routes.{is_before}
use Rattle.configuration.proofs.Steps.{all_from}
use Rattle.configuration.proofs.routes.is_before.Given as goal

abbrev pub invariant-loop-chamber : goal.invariant-loop-chamber
invariant-loop-chamber l = is_before l.earlier l.later ≡ all_from (λ c. list_all (nat_lt c) (chamber_list l.later)) l.earlier l.chamber

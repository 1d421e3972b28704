use Rattle.std.proofs.Common.{◌≡◌, nat_lt}
use Rattle.std.specs.List.{list_all}
use Rattle.tool_tasks.specs.Chambers.{chamber_list}
use Rattle.configuration.proofs.Steps.{all_from}
use Rattle.configuration.proofs.routes.is_before_each.Given as goal

abbrev pub invariant-loop-other : goal.invariant-loop-other
invariant-loop-other l = list_all (nat_lt l.chamber) (chamber_list l.set) ≡ all_from (nat_lt l.chamber) l.set l.other

use Rattle.std.proofs.Common.{◌≡◌, take}
use Rattle.job_requests.proofs.control.control_names.Given as goal

abbrev pub invariant-loop-name : goal.invariant-loop-name
invariant-loop-name l = l.ids ≡ take l.name-index l.names

use Rattle.std.proofs.Common.{length, ◌-◌, ◌≤◌}
use Rattle.outside.proofs.sending.write_whole.Given as goal

-- no more is sent than there is
abbrev pub invariant-loop-at : goal.invariant-loop-at
invariant-loop-at l = record { within : l.at ≤ length l.bytes }

abbrev pub decreases-loop-at : goal.decreases-loop-at
decreases-loop-at l = length l.bytes - l.at

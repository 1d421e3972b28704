use Rattle.std.proofs.Common.{◌≡◌, drop}
use Rattle.process_job.specs.Creating.{are_slots}
use Rattle.process_job.proofs.job.are_slots.Given as goal

abbrev pub invariant-loop-slot : goal.invariant-loop-slot
invariant-loop-slot l = are_slots (drop l.slot-index l.slots) ≡ are_slots l.slots

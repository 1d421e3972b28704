use Rattle.std.proofs.Common.{◌≡◌, length}
use Rattle.gem_model.specs.Due.{timeouts, all_done}
use Rattle.core_shop.proofs.clock.time_out_all.Given as goal

-- what is left to do leads to the same state as all that was to do at first
abbrev pub invariant-loop-one : goal.invariant-loop-one
invariant-loop-one l = all_done (timeouts l.plant) l.plant ≡ all_done (timeouts l.initial.plant) l.initial.plant

abbrev pub decreases-loop-one : goal.decreases-loop-one
decreases-loop-one l = length l.plant.transactions.opened

use Rattle.std.proofs.Common.{◌≡◌, ◌+◌}
use Rattle.gem_model.specs.Measure.{left}
use Rattle.gem_model.specs.Settle.{settled, settling}
use Rattle.gem_model.specs.Sizes.{counted}
use Rattle.history_parts.specs.Additions.{completions}
use Rattle.core_settling.proofs.settling.follow.Given as goal

-- the plant settles to the same state as the one that the call began with, and as many control jobs are completed in all
abbrev pub invariant-loop-completes : goal.invariant-loop-completes
invariant-loop-completes l = record {
  state : settled l.plant ≡ settled l.initial.plant;
  count : counted (l.completed + completions (settling l.plant)) ≡ counted (completions (settling l.initial.plant));
  small : l.completed ≡ counted l.completed;
}

abbrev pub decreases-loop-completes : goal.decreases-loop-completes
decreases-loop-completes l = left l.plant

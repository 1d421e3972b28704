use Rattle.std.proofs.Common.{◌≡◌}
use Rattle.state_charts.proofs.draw.draw_labels.Given as goal

abbrev pub invariant-loop-way : goal.invariant-loop-way
invariant-loop-way l = l.picture ≡ l.fn.picture

abbrev pub invariant-loop-arrow : goal.invariant-loop-arrow
invariant-loop-arrow l = l.picture ≡ l.fn.picture

use Rattle.std.proofs.Common.{◌≡◌}
use Rattle.state_charts.proofs.draw.draw_states.Given as goal

abbrev pub invariant-loop-frame : goal.invariant-loop-frame
invariant-loop-frame l = l.picture ≡ l.fn.picture

abbrev pub invariant-loop-shape : goal.invariant-loop-shape
invariant-loop-shape l = l.picture ≡ l.fn.picture

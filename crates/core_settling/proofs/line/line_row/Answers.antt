use Rattle.std.proofs.Common.{is_some, sym, ap}
use Rattle.core_state.specs.Firing.{fire_first}
use Rattle.core_settling.proofs.line.line_row.Goals as goal

pub returns-then-line_rests-clause-fired : goal.returns-then-line_rests-clause-fired
returns-then-line_rests-clause-fired c = sym (ap is_some (c.line_rests.ensures c.if-line_rests.true))

pub returns-then-line_rests-clause-after : goal.returns-then-line_rests-clause-after
returns-then-line_rests-clause-after c = sym (ap (λ f. fire_first f c.args.plant.now) (c.line_rests.ensures c.if-line_rests.true))

use Rattle.std.proofs.Common.{sym, ap, ◌∙◌}
use Rattle.note_line.specs.Table3.{least}
use Rattle.gem_model.specs.State.{around}
use Rattle.core_settling.proofs.LineRows.{resting}
use Rattle.core_settling.proofs.line.line_rests.Goals as goal

pub returns : goal.returns
returns c = λ is. resting c.args.plant.now (ap (least (around c.args.plant.now)) (sym c.notes.ensures) ∙ c.rests.ensures.none_ready is (around c.args.plant.now))

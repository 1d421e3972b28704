use Rattle.std.proofs.Common.{rules}
use Rattle.gem_model.specs.State.{around}
use Rattle.core_settling.proofs.LineRows.{restating}
use Rattle.core_settling.proofs.line.fire_row.Goals as goal

pub restate-requires-clause-states : goal.restate-requires-clause-states
restate-requires-clause-states c =
    restating (around c.args.plant.now) c.args.plant.now.line c.args.row c.requires.ready (search rules, search rules, search rules, search rules, search rules)

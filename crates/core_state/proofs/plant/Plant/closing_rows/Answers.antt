use Rattle.std.proofs.Common.{subst, sym}
use Rattle.floor_model.specs.Signals.{closing_rows}
use Rattle.gem_model.specs.Direct.{Are, IsListed}
use Rattle.gem_model.proofs.FloorRows.{closing_are}
use Rattle.core_state.proofs.ModuleRows.{listed_floor}
use Rattle.core_state.proofs.plant.Plant.closing_rows.Goals as goal

pub returns-clause-listed : goal.returns-clause-listed
returns-clause-listed c =
    subst (Are IsListed) (sym c.closing_rows.ensures) (listed_floor (closing_rows c.args.row c.args.m.0 c.floor.result.now) (closing_are c.args.row c.args.m.0 c.floor.result.now))

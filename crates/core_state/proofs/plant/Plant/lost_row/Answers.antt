use Rattle.std.proofs.Common.{subst, sym}
use Rattle.floor_model.specs.Signals.{lost_rows}
use Rattle.gem_model.specs.Direct.{Are, IsListed}
use Rattle.gem_model.proofs.FloorRows.{lost_are}
use Rattle.core_state.proofs.ModuleRows.{listed_floor}
use Rattle.core_state.proofs.plant.Plant.lost_row.Goals as goal

pub returns-clause-listed : goal.returns-clause-listed
returns-clause-listed c =
    subst (Are IsListed) (sym c.lost_row.ensures) (listed_floor (lost_rows c.args.sub c.floor.result.now) (lost_are c.args.sub c.floor.result.now))

use Rattle.std.proofs.Common.{subst, sym}
use Rattle.floor_model.specs.Signals.{done_rows}
use Rattle.gem_model.specs.Direct.{Are, IsListed}
use Rattle.gem_model.proofs.FloorRows.{done_are}
use Rattle.core_state.proofs.ModuleRows.{listed_floor}
use Rattle.core_state.proofs.plant.Plant.done_rows.Goals as goal

pub returns-clause-listed : goal.returns-clause-listed
returns-clause-listed c =
    subst (Are IsListed) (sym c.done_rows.ensures) (listed_floor (done_rows c.args.m.0 c.floor.result.now) (done_are c.args.m.0 c.floor.result.now))

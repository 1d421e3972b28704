use Rattle.std.proofs.Common.{◌∙◌, sym}
use Rattle.core_state.proofs.Floors.{untold_fires}
use Rattle.core_state.proofs.plant.Plant.floor_row.Goals as goal

-- nothing is told of it
pub returns-clause-fired : goal.returns-clause-fired
returns-clause-fired c = untold_fires c.args.self.now c.fire_floor.new.self c.args.f c.requires (sym c.is_row_reported.ensures ∙ c.if-is_row_reported.false) c.in_ok-rows.ensures.fired

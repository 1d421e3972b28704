use Rattle.std.proofs.Common.{◌∙◌}
use Rattle.core_state.proofs.Floors.{row_fires}
use Rattle.core_state.proofs.plant.Plant.told_row.Goals as goal

pub returns-clause-fired : goal.returns-clause-fired
returns-clause-fired c =
    c.in_ok-note.ensures
    ∙ row_fires c.args.self.now c.fire_floor.new.self c.args.f _ _ c.requires c.floor_object-object.ensures c.is_online-online_before.ensures c.in_ok-created.ensures.fired

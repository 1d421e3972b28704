use Rattle.std.proofs.Common.{Option, find, ap, ◌∙◌}
use Rattle.substrate.specs.Places.{stands_at}
use Rattle.substrate.specs.declared.registered.Registered.{Registered}
use Rattle.floor_model.specs.Floor.{ToolFloor}
use Rattle.floor_model.specs.Picks.{told_there}
use Rattle.tool_floor.proofs.floor.ToolFloor.told_in_slot.Goals as goal

pub returns : goal.returns
returns c =
    c.told_there.ensures
    ∙ ap (λ (o : Option Registered). told_there c.args.s.now c.self.inside.jobs o) c.registered_in.ensures.value
    ∙ ap (λ (f : ToolFloor). told_there c.args.s.now f.jobs (find (stands_at c.args.s.now.slot) c.args.self.now.places.held)) c.self.view_is

use Rattle.std.proofs.Common.{Option, ap, ◌∙◌}
use Rattle.substrate.specs.declared.registered.Registered.{Registered}
use Rattle.floor_model.specs.Picks.{kept_as}
use Rattle.floor_model.proofs.Told.{empty_where}
use Rattle.tool_floor.proofs.whereabouts.ToolFloorWhereabouts.is_empty.Goals as goal

pub returns : goal.returns
returns c =
    empty_where c.args.self.now c.registered_in.ensures.places c.args.loc c.kept_as.result _
    (c.kept_as.ensures ∙ ap (λ (o : Option Registered). kept_as o c.args.self.now) c.registered_in.ensures.value) c.is_none.ensures

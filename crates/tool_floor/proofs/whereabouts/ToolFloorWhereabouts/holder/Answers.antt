use Rattle.std.proofs.Common.{Option, sym, ap, ◌∙◌}
use Rattle.substrate.specs.declared.registered.Registered.{Registered}
use Rattle.floor_model.specs.Picks.{told_of}
use Rattle.floor_model.proofs.Told.{holder_is}
use Rattle.tool_floor.proofs.whereabouts.ToolFloorWhereabouts.holder.Goals as goal

pub returns : goal.returns
returns c =
    c.told_of.ensures
    ∙ ap (λ (o : Option Registered). told_of o c.args.self.now) c.registered_in.ensures.value
    ∙ sym (holder_is c.args.self.now c.registered_in.ensures.places c.args.loc)

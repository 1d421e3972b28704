use Rattle.std.proofs.Common.{find, sym, ap, ◌∙◌}
use Rattle.substrate.specs.Places.{stands_at}
use Rattle.floor_model.specs.Floor.{ToolFloor}
use Rattle.floor_model.proofs.Slots.{named_there, none_there}
use Rattle.tool_floor.proofs.floor.ToolFloor.registered_in.Goals as goal

pub returns-in-Some-clause-value : goal.returns-in-Some-clause-value
returns-in-Some-clause-value c =
    c.find.ensures.value
    ∙ named_there c.args.loc c.self.inside.places c.in-Some.name c.at.ensures.places (sym c.at.ensures.value ∙ c.in-Some.is)
    ∙ ap (λ (f : ToolFloor). find (stands_at c.args.loc) f.places.held) c.self.view_is

pub returns-in-None-clause-value : goal.returns-in-None-clause-value
returns-in-None-clause-value c =
    sym (none_there c.args.loc c.self.inside.places.held (sym c.at.ensures.value ∙ c.in-None.is))
    ∙ ap (λ (f : ToolFloor). find (stands_at c.args.loc) f.places.held) c.self.view_is

use Rattle.std.proofs.Common.{subst, sym, refl}
use Rattle.floor_model.specs.Floor.{RiseTo}
use Rattle.floor_model.specs.Modules.{stepped}
use Rattle.floor_model.proofs.Scans.{rise_changed}
use Rattle.tool_floor.proofs.floor.ToolFloor.step_numbered.Goals as goal

pub invariant_of-self : goal.invariant_of-self
invariant_of-self c =
    subst (RiseTo 0 c.self.inside.places.given) (sym c.step.ensures)
    (rise_changed 0 c.self.inside.places.given c.in-Some.number stepped c.self.inside.substrates (λ s. refl) c.self.invariant)

use Rattle.std.proofs.Common.{subst, sym, refl}
use Rattle.floor_model.specs.Floor.{RiseTo}
use Rattle.floor_model.specs.Machines.{substrate_moves}
use Rattle.floor_model.proofs.Scans.{rise_changed}
use Rattle.tool_floor.proofs.floor.ToolFloor.fire_substrate.Goals as goal

pub invariant_of-self : goal.invariant_of-self
invariant_of-self c =
    subst (RiseTo 0 c.self.inside.places.given) (sym c.fire.ensures)
    (rise_changed 0 c.self.inside.places.given c.args.x.object (substrate_moves c.args.x.row.table c.args.x.row.row) c.self.inside.substrates (λ s. refl) c.self.invariant)

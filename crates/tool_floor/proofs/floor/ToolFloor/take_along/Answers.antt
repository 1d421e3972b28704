use Rattle.std.proofs.Common.{not, subst, sym}
use Rattle.floor_model.specs.Floor.{RiseTo}
use Rattle.floor_model.specs.Substrates.{is_of}
use Rattle.floor_model.specs.declared.tracked.Substrate.{Substrate}
use Rattle.floor_model.proofs.Scans.{rise_kept}
use Rattle.tool_floor.proofs.floor.ToolFloor.take_along.Goals as goal

pub invariant_of-self : goal.invariant_of-self
invariant_of-self c =
    subst (RiseTo 0 c.self.inside.places.given) (sym c.forget.ensures)
    (rise_kept 0 c.self.inside.places.given (λ (s : Substrate). not (is_of c.args.carrier s)) c.self.inside.substrates c.self.invariant)

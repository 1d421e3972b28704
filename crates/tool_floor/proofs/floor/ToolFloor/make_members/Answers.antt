use Rattle.std.proofs.Common.{List, sym, subst}
use Rattle.floor_model.specs.declared.tracked.Substrate.{Substrate}
use Rattle.floor_model.specs.Floor.{RiseTo}
use Rattle.floor_model.specs.Jobs.{joined}
use Rattle.floor_model.proofs.Scans.{rise_mapped}
use Rattle.floor_model.proofs.Marks.{joined_number}
use Rattle.tool_floor.proofs.floor.ToolFloor.make_members.Goals as goal

pub invariant_of-self : goal.invariant_of-self
invariant_of-self c =
    subst (λ (ss : List Substrate). RiseTo 0 c.self.inside.places.given ss) (sym c.join.ensures)
    (rise_mapped 0 c.self.inside.places.given (joined c.in-Some.job.now c.self.inside.shop) c.self.inside.substrates (joined_number c.in-Some.job.now c.self.inside.shop) c.self.invariant)

use Rattle.std.proofs.Common.{List, sym, subst}
use Rattle.floor_model.specs.declared.tracked.Substrate.{Substrate}
use Rattle.floor_model.specs.Floor.{RiseTo}
use Rattle.floor_model.specs.Jobs.{freed}
use Rattle.floor_model.proofs.Scans.{rise_mapped}
use Rattle.floor_model.proofs.Marks.{freed_number}
use Rattle.tool_floor.proofs.floor.ToolFloor.free_members.Goals as goal

pub invariant_of-self : goal.invariant_of-self
invariant_of-self c =
    subst (λ (ss : List Substrate). RiseTo 0 c.self.inside.places.given ss) (sym c.free.ensures)
    (rise_mapped 0 c.self.inside.places.given (freed c.in-Some.job.now.number) c.self.inside.substrates (freed_number c.in-Some.job.now.number) c.self.invariant)

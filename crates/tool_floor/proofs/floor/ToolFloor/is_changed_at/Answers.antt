use Rattle.std.proofs.Common.{◌≡◌, ◌+◌, ◌<◌, false, not, None, length, sym, ap, subst, ◌∙◌}
use Rattle.floor_model.specs.Floor.{ToolFloor, location_at}
use Rattle.floor_model.specs.Machines.{location_ready}
use Rattle.tool_floor.specs.Kept.{kept_floor}
use Rattle.tool_floor.proofs.Located.{free_rests, taken_rests}
use Rattle.tool_floor.proofs.floor.ToolFloor.is_changed_at.Goals as goal

pub returns-in-Unoccupied : goal.returns-in-Unoccupied
returns-in-Unoccupied c =
    let within = subst (λ (f : ToolFloor). c.args.place < length f.locations) (sym c.self.view_is) c.requires in
    subst (λ (f : ToolFloor). c.is_taken_at.result ≡ false → location_ready (c.args.place + 1) (location_at (c.args.place + 1) f.locations) f ≡ None) c.self.view_is
    (λ e. free_rests (kept_floor c.self.inside) c.args.place c.index.result.now within c.index.ensures c.in-Unoccupied.is (sym c.is_taken_at.ensures ∙ e))

pub returns-in-Occupied : goal.returns-in-Occupied
returns-in-Occupied c =
    let within = subst (λ (f : ToolFloor). c.args.place < length f.locations) (sym c.self.view_is) c.requires in
    subst (λ (f : ToolFloor). not c.is_taken_at-in-Occupied.result ≡ false → location_ready (c.args.place + 1) (location_at (c.args.place + 1) f.locations) f ≡ None) c.self.view_is
    (λ e. taken_rests (kept_floor c.self.inside) c.args.place c.index.result.now within c.index.ensures c.in-Occupied.is (sym (ap not c.is_taken_at-in-Occupied.ensures) ∙ e))

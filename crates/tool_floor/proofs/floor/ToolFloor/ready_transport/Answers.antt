use Rattle.std.proofs.Common.{sym, ap, map, ◌∙◌}
use Rattle.gem_tables.specs.Machine.{first_ready, ready_in}
use Rattle.floor_model.specs.Floor.{ToolFloor, number_of}
use Rattle.tool_floor.specs.Kept.{kept_floor}
use Rattle.floor_model.specs.Machines.{floor_machines}
use Rattle.floor_model.proofs.Resting.{no_transport}
use Rattle.tool_floor.proofs.floor.ToolFloor.ready_transport.Goals as goal

pub returns-then-not-is_any_at_work-2 : goal.returns-then-not-is_any_at_work-2
returns-then-not-is_any_at_work-2 c =
    sym (no_transport (kept_floor c.self.inside) (sym c.is_any_at_work.ensures ∙ c.if-not-is_any_at_work.true) (sym c.is_any_at_work-then-not-is_any_at_work.ensures ∙ c.if-not-is_any_at_work-2.true))
    ∙ ap (λ (f : ToolFloor). first_ready 12 (λ n. ready_in floor_machines 12 n f) (map number_of f.substrates)) c.self.view_is

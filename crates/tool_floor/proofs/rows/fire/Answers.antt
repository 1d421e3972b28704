use Rattle.std.proofs.Common.{ℕ, ◌∙◌, ap}
use Rattle.robot_moves.specs.Modules.{change_module, closed}
use Rattle.robot_moves.specs.declared.module.Module.TheVariants.{Idle, Down}
use Rattle.floor_model.proofs.Behind.{done_behind, ends_5, ends_6, ends_7, failed_behind, is_other, stays_behind}
use Rattle.tool_floor.proofs.rows.fire.Goals.{then-row-eq5-via-then-row-eq5, then-row-eq5-via-else-row-eq5+then-row-eq6, then-row-eq5-via-else-row-eq5+else-row-eq6+then-row-eq7}
use Rattle.tool_floor.proofs.rows.fire.Goals as goal

pub returns-then-row-eq8 : goal.returns-then-row-eq8
returns-then-row-eq8 c =
    c.failed.ensures.after
    ∙ ap (λ (k : ℕ). change_module c.args.m.0 (closed k Down) c.args.modules.now) c.open_number.ensures
    ∙ failed_behind c.args.row c.args.m.0 c.args.modules.now c.if-row-eq8.true

pub returns-then-row-eq5 : goal.returns-then-row-eq5
returns-then-row-eq5 c =
    c.done.ensures.after
    ∙ ap (λ (k : ℕ). change_module c.args.m.0 (closed k Idle) c.args.modules.now) c.open_number-then-row-eq5.ensures
    ∙ elim c.then-row-eq5.branch [
      | then-row-eq5-via-then-row-eq5 w ↦ done_behind c.args.row c.args.m.0 c.args.modules.now (ends_5 c.args.row w.if-row-eq5.true)
      | then-row-eq5-via-else-row-eq5+then-row-eq6 w ↦ done_behind c.args.row c.args.m.0 c.args.modules.now (ends_6 c.args.row w.if-row-eq6.true)
      | then-row-eq5-via-else-row-eq5+else-row-eq6+then-row-eq7 w ↦ done_behind c.args.row c.args.m.0 c.args.modules.now (ends_7 c.args.row w.if-row-eq7.true)
    ]

pub returns-else-row-eq7 : goal.returns-else-row-eq7
returns-else-row-eq7 c =
    let other = is_other c.args.row in
    stays_behind c.args.row (other 5 c.if-row-eq5.false) (other 6 c.if-row-eq6.false) (other 7 c.if-row-eq7.false) (other 8 c.if-row-eq8.false) (other 9 c.if-row-eq9.false) (other 10 c.if-row-eq10.false) c.args.m.0 c.args.modules.now

use Rattle.std.proofs.Common.{sym, ap, ◌∙◌}
use Rattle.shop_floor.specs.Floor.{Floor}
use Rattle.floor_model.specs.Floor.{with_shop}
use Rattle.floor_model.specs.Machines.{floor_starts, floor_fired, creation_rows}
use Rattle.floor_model.proofs.Tables.{is_other, starts_shop, fired_shop, creates_shop}
use Rattle.tool_floor.specs.Kept.{kept_floor}
use Rattle.tool_floor.proofs.floor.ToolFloor.fire_shop.Goals as goal

pub fire-requires : goal.fire-requires
fire-requires c =
    sym (starts_shop c.args.x (kept_floor c.self.inside) (is_other c.args.x (kept_floor c.self.inside) c.requires.other))
    ∙ (ap (floor_starts c.args.x) c.self.view_is ∙ c.requires.starts)

pub returns-clause-ok : goal.returns-clause-ok
returns-clause-ok c =
    ap (λ (s : Floor). with_shop s (kept_floor c.self.inside)) c.in_ok-fire.ensures.ok
    ∙ sym (fired_shop c.args.x (kept_floor c.self.inside) c.requires.other)
    ∙ ap (floor_fired c.args.x) c.self.view_is

pub returns-clause-follow : goal.returns-clause-follow
returns-clause-follow c =
    c.in_ok-created.ensures.items ∙ c.as_slice.ensures.value ∙ c.creations.ensures
    ∙ sym (creates_shop c.args.x (kept_floor c.self.inside) c.requires.other)
    ∙ ap (creation_rows c.args.x) c.self.view_is

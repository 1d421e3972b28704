use Rattle.std.proofs.Common.{◌≡◌, ℕ, List, true, drop, length, sym, ap, subst, ◌∙◌}
use Rattle.shop_floor.specs.Floor.{Floor}
use Rattle.shop_floor.specs.Machines.{floor_starts as shop_starts, floor_fired as shop_fired}
use Rattle.floor_model.specs.Floor.{ToolFloor, with_shop}
use Rattle.tool_floor.specs.Kept.{kept_floor}
use Rattle.floor_model.specs.Substrates.{registration_rows}
use Rattle.floor_model.specs.Machines.{registered_by}
use Rattle.floor_model.specs.declared.tracked.Substrate.{Substrate}
use Rattle.floor_model.proofs.Tables.{starts_map, fired_map, created_map}
use Rattle.floor_model.proofs.Registrations.{Registers, row_registered}
use Rattle.tool_floor.proofs.floor.ToolFloor.fire_map.Goals as goal

pub fire-requires : goal.fire-requires
fire-requires c =
    let registers : Registers 25 c.args.self.now (registered_by c.args.x.row.row c.args.x.object c.args.self.now) = row_registered c.args.x.row.row c.args.x.object c.args.self.now in
    let same : c.self-2.inside.shop ≡ c.args.self.now.shop = ap (λ (f : ToolFloor). f.shop) (c.self-2.view_is ∙ c.in_ok-register_by.ensures) ∙ registers.shop in
    subst (λ (s : Floor). shop_starts c.args.x s ≡ true) (sym same) (starts_map c.args.x c.args.self.now c.requires.table c.requires.starts)

pub returns-clause-ok : goal.returns-clause-ok
returns-clause-ok c =
    let registers : Registers 25 c.args.self.now (registered_by c.args.x.row.row c.args.x.object c.args.self.now) = row_registered c.args.x.row.row c.args.x.object c.args.self.now in
    ap (λ (s : Floor). with_shop s (kept_floor c.self-2.inside)) c.in_ok-fire.ensures.ok
    ∙ ap (λ (f : ToolFloor). with_shop (shop_fired c.args.x f.shop) f) (c.self-2.view_is ∙ c.in_ok-register_by.ensures)
    ∙ ap (λ (s : Floor). with_shop (shop_fired c.args.x s) (registered_by c.args.x.row.row c.args.x.object c.args.self.now)) registers.shop
    ∙ sym (fired_map c.args.x c.args.self.now c.requires.table)

pub returns-clause-follow : goal.returns-clause-follow
returns-clause-follow c =
    let behind = ap (λ (f : ToolFloor). f.substrates) (c.self-2.view_is ∙ c.in_ok-register_by.ensures) in
    let before = ap (λ (f : ToolFloor). length f.substrates) c.self.view_is in
    c.in_ok-rows.ensures
    ∙ ap (λ (n : ℕ). registration_rows (drop n c.self-2.inside.substrates)) (c.len-known.ensures ∙ before)
    ∙ ap (λ (ss : List Substrate). registration_rows (drop (length c.args.self.now.substrates) ss)) behind
    ∙ sym (created_map c.args.x c.args.self.now c.requires.table)

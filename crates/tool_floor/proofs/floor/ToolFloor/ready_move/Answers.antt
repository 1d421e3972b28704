use Rattle.std.proofs.Common.{ℕ, Some, option_map, sym, ap, ◌∙◌}
use Rattle.gem_tables.specs.Table.{firing}
use Rattle.gem_tables.specs.declared.firing.Firing.{Firing}
use Rattle.floor_model.specs.Views.{views}
use Rattle.floor_model.proofs.Moves.{first_move_is, firing_of, none_to_move}
use Rattle.floor_model.proofs.Showing.{none_planned}
use Rattle.tool_floor.proofs.floor.ToolFloor.ready_move.Goals as goal

pub returns-then-not-is_any_processing : goal.returns-then-not-is_any_processing
returns-then-not-is_any_processing c =
    sym (none_to_move c.args.self.now (none_planned c.args.self.now (sym c.is_any_at_work.ensures ∙ c.if-not-is_any_at_work.true) (sym c.is_any_processing.ensures ∙ c.if-not-is_any_processing.true)))

pub returns-in-Some : goal.returns-in-Some
returns-in-Some c =
    ap (λ (x : Firing). Some x) (c.of.ensures ∙ ap (λ (n : ℕ). firing 16 n c.in-Some.next.row) c.from.ensures)
    ∙ sym (first_move_is c.args.self.now ∙ ap (option_map (firing_of (views c.args.self.now) c.args.self.now.modules)) (sym c.next_move.ensures ∙ c.in-Some.is))

pub returns-in-None : goal.returns-in-None
returns-in-None c =
    sym (first_move_is c.args.self.now ∙ ap (option_map (firing_of (views c.args.self.now) c.args.self.now.modules)) (sym c.next_move.ensures ∙ c.in-None.is))

-- Where a substrate goes by Done of Pick or of Place.
use Rattle.std.proofs.Common.{◌≡◌, ℕ, Bool, List, Some, ◌∙◌, ap}
use Rattle.gem_ids.specs.declared.numbers.LocId.{LocId}
use Rattle.gem_ids.specs.declared.numbers.LocId.TheVariants.{Arm}
use Rattle.gem_tables.specs.Table.{firing}
use Rattle.tool_tasks.specs.declared.task.Command.{Command}
use Rattle.tool_tasks.specs.declared.task.Task.TheVariants as task
use Rattle.robot_moves.specs.declared.module.Module.TheVariants.{Busy}
use Rattle.robot_moves.specs.Modules.{module_at}
use Rattle.floor_model.specs.Floor.{ToolFloor}
use Rattle.floor_model.specs.Machines.{floor_fired}
use Rattle.floor_model.specs.Modules.{number_named}
use Rattle.floor_moves.specs.Floor.{Loc, arm, set}
use Rattle.floor_moves.proofs.Maps.{set_here, set_else}
use Rattle.place_laws.specs.Picture.{picture, loc_of, place_in, numbered}
use Rattle.place_laws.specs.Sound.{Sound}
use Rattle.floor_laws.proofs.EndMoves.{Written, pick_written, place_written}

-- the substrate of a name goes from a place to another, and each other stays where it is
pub record Transfers (sub : List ℕ) (from to : Loc) (f g : ToolFloor) : Type 0 where
  pub number : ℕ
  pub named : number_named sub f.places ≡ Some number
  pub before : place_in f.places number ≡ Some from
  pub after : place_in g.places number ≡ Some to
  pub others : (k : ℕ) → (k ≡ number → ⊥) → place_in g.places k ≡ place_in f.places k
  pub given : g.places.given ≡ f.places.given

module _ (m : ℕ) (c : Command) (fetched : Bool) (f : ToolFloor) (here : module_at m f.modules ≡ Some (Busy c fetched)) (sound : Sound f) where
  transfers : (sub : List ℕ) (from to : LocId) → Written f sound m c fetched here sub from to → Transfers sub (loc_of from) (loc_of to) f (floor_fired (firing 16 m 5) f)
  transfers sub from to w = record {
    number = numbered sub f.places;
    named = w.named;
    before = w.before;
    after = behind (numbered sub f.places) ∙ set_here (numbered sub f.places) (Some (loc_of to)) (picture f).place_of;
    others = λ k other. behind k ∙ set_else (numbered sub f.places) k (Some (loc_of to)) (picture f).place_of other;
    given = ap (λ (g : ToolFloor). g.places.given) w.fires;
  } where
    behind : (k : ℕ) → place_in (floor_fired (firing 16 m 5) f).places k ≡ set (numbered sub f.places) (Some (loc_of to)) (picture f).place_of k
    behind k = ap (λ (g : ToolFloor). place_in g.places k) w.fires ∙ w.agrees.place_of k

  -- a Pick is done
  pub pick_places : (sub : List ℕ) (from : LocId) → c.task ≡ task.Pick sub from → Transfers sub (loc_of from) arm f (floor_fired (firing 16 m 5) f)
  pick_places sub from is = transfers sub from Arm (pick_written f sound m c fetched here sub from is)

  -- a Place is done
  pub place_places : (sub : List ℕ) (to : LocId) → c.task ≡ task.Place sub to → Transfers sub arm (loc_of to) f (floor_fired (firing 16 m 5) f)
  place_places sub to is = transfers sub Arm to (place_written f sound m c fetched here sub to is)

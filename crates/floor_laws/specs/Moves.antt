-- How the places of substrates change over the rows of one input (this tool's profile, moves and operator words).
use Rattle.std.specs.Prelude.{◌≡◌, ◌⊎◌, ℕ, List, Some, None}
use Rattle.gem_ids.specs.declared.numbers.LocId.{LocId}
use Rattle.tool_tasks.specs.declared.task.Command.{Command}
use Rattle.tool_tasks.specs.declared.task.Task.TheVariants as task
use Rattle.floor_model.specs.Floor.{ToolFloor}
use Rattle.floor_model.specs.Modules.{number_named}
use Rattle.floor_moves.specs.Floor.{arm}
use Rattle.place_laws.specs.Picture.{loc_of, place_in}

-- the open Pick of a substrate is done: it goes from the start onto the arm
pub record Picked (c : Command) (n : ℕ) (f g : ToolFloor) : Type 0 where
  pub sub : List ℕ
  pub from : LocId
  pub task : c.task ≡ task.Pick sub from
  pub named : number_named sub f.places ≡ Some n
  pub before : place_in f.places n ≡ Some (loc_of from)
  pub after : place_in g.places n ≡ Some arm

-- the open Place of a substrate is done: it goes from the arm to the end
pub record Placed (c : Command) (n : ℕ) (f g : ToolFloor) : Type 0 where
  pub sub : List ℕ
  pub to : LocId
  pub task : c.task ≡ task.Place sub to
  pub named : number_named sub f.places ≡ Some n
  pub before : place_in f.places n ≡ Some arm
  pub after : place_in g.places n ≡ Some (loc_of to)

-- the places behind Done of a command: each substrate stays, but for that of a Pick or a Place
pub record DoneAt (c : Command) (f g : ToolFloor) : Type 0 where
  pub places : (n : ℕ) → (place_in g.places n ≡ place_in f.places n) ⊎ (Picked c n f g ⊎ Placed c n f g)
  pub given : g.places.given ≡ f.places.given

-- the places behind `lost`: each substrate stays, but for that of the name, which has none any more
pub record LostAt (sub : List ℕ) (f g : ToolFloor) : Type 0 where
  pub places : (n : ℕ) → (place_in g.places n ≡ place_in f.places n) ⊎ ((number_named sub f.places ≡ Some n) × (place_in g.places n ≡ None))
  pub given : g.places.given ≡ f.places.given

-- The machines of a world, one for each table, and what they say together (this tool's profile, settling).
use Rattle.std.specs.Prelude.{ℕ, ◌==◌, Bool, false, if◌then◌else◌, List, [], ◌∷◌, Option, None, option_map}
use Rattle.std.specs.Option.{option_or}
use Rattle.gem_tables.specs.Table.{firing}
use Rattle.gem_tables.specs.declared.firing.Firing.{Firing}

-- A table at work in a world: its number; its objects, in the order in which their rows fire by themselves; whether a row starts
-- at an object; the least row that is ready by itself at an object; the world behind a row at an object; the rows of the objects
-- that a row at an object creates, which fire straight behind it; and the name of an object.
pub record Machine (World : Type 0) : Type 0 where
  pub table : ℕ
  pub objects : World → List ℕ
  pub starts : ℕ → ℕ → World → Bool
  pub ready : ℕ → World → Option ℕ
  pub fired : ℕ → ℕ → World → World
  pub creates : ℕ → ℕ → World → List Firing
  pub name : ℕ → World → List ℕ

-- the first of these objects at which a row of the table is ready, with that row
abbrev pub first_ready : ℕ → (ℕ → Option ℕ) → List ℕ → Option Firing
first_ready table ready [] = None
first_ready table ready (object ∷ objects) = option_or (option_map (firing table object) (ready object)) (first_ready table ready objects)

module _ {World : Type 0} where
  -- the row of a firing starts
  abbrev pub starts_in : List (Machine World) → Firing → World → Bool
  starts_in [] f w = false
  starts_in (m ∷ ms) f w = if f.row.table == m.table then m.starts f.row.row f.object w else starts_in ms f w

  -- the least row of a table that is ready at an object
  abbrev pub ready_in : List (Machine World) → ℕ → ℕ → World → Option ℕ
  ready_in [] table object w = None
  ready_in (m ∷ ms) table object w = if table == m.table then m.ready object w else ready_in ms table object w

  -- the world behind a firing, but for its note
  abbrev pub fired_in : List (Machine World) → Firing → World → World
  fired_in [] f w = w
  fired_in (m ∷ ms) f w = if f.row.table == m.table then m.fired f.row.row f.object w else fired_in ms f w

  -- the rows of the objects that a firing creates
  abbrev pub creates_in : List (Machine World) → Firing → World → List Firing
  creates_in [] f w = []
  creates_in (m ∷ ms) f w = if f.row.table == m.table then m.creates f.row.row f.object w else creates_in ms f w

  -- the name of the object of a firing, empty where it has none
  abbrev pub object_in : List (Machine World) → Firing → World → List ℕ
  object_in [] f w = []
  object_in (m ∷ ms) f w = if f.row.table == m.table then m.name f.object w else object_in ms f w

  -- the least firing that is ready by itself: by table, object and row
  abbrev pub least_in : List (Machine World) → World → Option Firing
  least_in [] w = None
  least_in (m ∷ ms) w = option_or (first_ready m.table (λ object. m.ready object w) (m.objects w)) (least_in ms w)

-- Firings of the plant.
use Rattle.std.specs.Prelude.{◌≡◌, true, List, [], ◌∷◌, Option, Some, None}
use Rattle.gem_tables.specs.declared.firing.Firing.{Firing}
use Rattle.floor_model.specs.Floor.{ToolFloor}
use Rattle.floor_model.specs.Machines.{floor_starts, floor_fired}
use Rattle.gem_model.specs.State.{State}
use Rattle.gem_model.specs.Fire.{advanced}

-- the state behind the firing, with those of what it creates, where there is one
abbrev pub fire_first : Option Firing → State → State
fire_first None g = g
fire_first (Some f) g = advanced g f

-- each of these rows of created objects starts, and leaves the floor of the tool as it is
abbrev pub AreCreated : ToolFloor → List Firing → Type 0
AreCreated f [] = Unit {0}
AreCreated f (d ∷ ds) = ((floor_starts d f ≡ true) × (floor_fired d f ≡ f)) × AreCreated f ds

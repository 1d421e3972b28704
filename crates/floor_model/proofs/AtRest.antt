-- Where no row of the floor is ready by itself, none is in any table, and none at any of a table's objects.
use Rattle.std.proofs.Common.{◌≡◌, ℕ, true, List, [], ◌∷◌, None}
use Rattle.std.specs.List.{AllByRecursion}
use Rattle.gem_tables.specs.Table.{is_one_of}
use Rattle.gem_tables.specs.Machine.{Machine}
use Rattle.shop_floor.proofs.AtRest.{Rests, first_none, none_least}
use Rattle.floor_model.specs.Floor.{ToolFloor}
use Rattle.floor_model.specs.Machines.{floor_machines, floor_least}
use Rattle.floor_model.proofs.EachTable.{EachTable, by_name}

-- no row of tables 4 to 16 is ready
pub rests : (f : ToolFloor) → floor_least f ≡ None → EachTable (Rests f)
rests f e = by_name (Rests f) (none_least floor_machines f e)

-- no row of a table is ready at an object of it
abbrev pub NoneReady : ToolFloor → Machine ToolFloor → Type 0
NoneReady f m = (object : ℕ) → is_one_of (m.objects f) object ≡ true → m.ready object f ≡ None

at_objects : (f : ToolFloor) (ms : List (Machine ToolFloor)) → AllByRecursion (Rests f) ms → AllByRecursion (NoneReady f) ms
at_objects f [] rest = tt
at_objects f (m ∷ ms) rest = (first_none m.table (λ object. m.ready object f) (m.objects f) rest.0, at_objects f ms rest.1)

-- so none is ready at any object
pub none_ready : (f : ToolFloor) → floor_least f ≡ None → EachTable (NoneReady f)
none_ready f e = by_name (NoneReady f) (at_objects f floor_machines (none_least floor_machines f e))

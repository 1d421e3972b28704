-- The floor of the tool: its load ports and carriers, its modules, and its substrates with their places (after SEMI E87 and SEMI E90;
-- this tool's profile, carriers, substrates and moves).
use Rattle.std.specs.Prelude.{ℕ, zero, suc, ◌+◌, ◌≤◌, nat_lt, ◌&&◌, if◌then◌else◌, List, [], ◌∷◌, ◌++◌, codes, replicate, Option, Some, None, slice_get}
use Rattle.gem_tables.specs.Table.{update_at}
use Rattle.records.specs.Numbers as numbered
use Rattle.gem_ids.specs.declared.numbers.LocId.{LocId}
use Rattle.gem_ids.specs.declared.numbers.LocId.TheVariants.{Slot, Aligner, Arm, Chamber}
use Rattle.gem_ids.specs.Names.{two_digits}
use Rattle.robot_moves.specs.declared.module.Module.{Module}
use Rattle.robot_moves.specs.Modules.{first_modules, change_module, taken}
use Rattle.shop_floor.specs.Floor.{Floor, digit}
use Rattle.shop_floor.specs.Floor as shop
use Rattle.substrate.specs.Places.{PlaceMap, no_places}
use Rattle.substrate.specs.Board.{spot_count}
use Rattle.substrate.specs.Record.{first_location}
use Rattle.substrate.specs.declared.record.LocationRecord.{LocationRecord}
use Rattle.tool_tasks.specs.declared.recipes.Recipe.{Recipe}
use Rattle.tool_jobs.specs.Jobs.{Jobs, no_jobs}
use Rattle.floor_model.specs.declared.tracked.Substrate.{Substrate}

-- the load ports with the carriers; the modules by their numbers: 1 is the robot, 2 the aligner, and 2 + c chamber c; which
-- substrate has which place; the states of the locations by their numbers: slots port by port, then aligner, arm and chambers; and
-- the substrates of the carriers that are here, in the order of their registration; the number of the last command that was given, 0
-- where none was; and the process jobs and control jobs
pub record ToolFloor : Type 0 where
  pub shop : Floor
  pub modules : List Module
  pub places : PlaceMap
  pub locations : List LocationRecord
  pub substrates : List Substrate
  pub commands : ℕ
  pub jobs : Jobs

-- so many ports without a carrier, so many chambers, and these recipes; each module is Idle, no substrate has a place, and there is no
-- job
abbrev pub opening : ℕ → ℕ → List Recipe → ToolFloor
opening ports chambers recipes = record {
  shop = shop.opening ports;
  modules = first_modules chambers;
  places = no_places ports chambers;
  locations = replicate (spot_count ports chambers) first_location;
  substrates = [];
  commands = 0;
  jobs = no_jobs recipes;
}

-- ---- what changes

-- the load ports and the carriers are these now
abbrev pub with_shop : Floor → ToolFloor → ToolFloor
with_shop s f = record f { shop = s }

-- the jobs are these now
abbrev pub with_jobs : Jobs → ToolFloor → ToolFloor
with_jobs w f = record f { jobs = w }

-- a change of the module of a number
abbrev pub with_module : ℕ → (Module → Module) → ToolFloor → ToolFloor
with_module number change f = record f { modules = change_module number change f.modules }

-- the open command of the module of a number was fetched
abbrev pub fetched : ℕ → ToolFloor → ToolFloor
fetched number f = with_module number taken f

-- the location of a number, counted from 1
abbrev pub location_at : ℕ → List LocationRecord → Option LocationRecord
location_at zero locations = None
location_at (suc n) locations = slice_get locations n

-- a change of the location of a number
abbrev pub change_location : ℕ → (LocationRecord → LocationRecord) → List LocationRecord → List LocationRecord
change_location zero change locations = locations
change_location (suc n) change locations = update_at n change locations

-- the number of a substrate
abbrev pub number_of : Substrate → ℕ
number_of s = s.number

-- the substrate of a number of registration
abbrev pub substrate_numbered : ℕ → List Substrate → Option Substrate
substrate_numbered n substrates = numbered.record_numbered number_of n substrates

-- a change of the substrate of a number of registration; where there is none, nothing changes
abbrev pub change_numbered : ℕ → (Substrate → Substrate) → List Substrate → List Substrate
change_numbered n change substrates = numbered.change_numbered number_of n change substrates

-- ---- objects and their names

-- the numbers of objects, the first of which is given
abbrev pub module_numbers : ℕ → List Module → List ℕ
module_numbers n [] = []
module_numbers n (m ∷ ms) = n ∷ module_numbers (n + 1) ms

abbrev pub location_numbers : ℕ → List LocationRecord → List ℕ
location_numbers n [] = []
location_numbers n (l ∷ ls) = n ∷ location_numbers (n + 1) ls

-- the name of a place: a slot's is that of its port, a point and two digits, as P1.01; a tool has fewer than ten ports and
-- chambers, and one that no tool has has no name (this tool's profile, object names)
abbrev pub place_name : LocId → List ℕ
place_name (Slot p k) = if nat_lt p.0 10 && nat_lt k.0 100 then codes "P" ++ digit p.0 ∷ 46 ∷ two_digits k.0 else []
place_name Aligner = codes "AL"
place_name Arm = codes "ARM"
place_name (Chamber c) = if nat_lt c 10 then codes "C" ++ digit c ∷ [] else []

-- the name of the place of a number, empty where there is none
abbrev pub name_of_place : Option LocId → List ℕ
name_of_place None = []
name_of_place (Some loc) = place_name loc

-- the name of a substrate, empty where there is none
abbrev pub substrate_name : Option Substrate → List ℕ
substrate_name None = []
substrate_name (Some s) = s.sub

-- the numbers of substrates rise from behind one number on, and were given
abbrev pub RiseTo : ℕ → ℕ → List Substrate → Type 0
RiseTo last given [] = last ≤ given
RiseTo last given (s ∷ ss) = (last + 1 ≤ s.number) × RiseTo s.number given ss

-- Floors of the tool made by hand: one load port with a carrier of one substrate, or two, and two chambers. And what fires on a floor: the
-- rows that an input lists, and behind them the rows that are ready by themselves.
use Rattle.std.specs.Prelude.{ℕ, zero, suc, Bool, true, false, if◌then◌else◌, List, [], ◌∷◌, ◌++◌, codes, replicate, Option, Some, None}
use Rattle.gem_tables.specs.Table.{firing}
use Rattle.gem_tables.specs.declared.firing.Firing.{Firing}
use Rattle.gem_ids.specs.declared.numbers.LocId.{LocId}
use Rattle.gem_ids.specs.declared.numbers.LocId.TheVariants.{Slot, Aligner, Arm, Chamber}
use Rattle.tool_tasks.specs.declared.task.Task.{Task}
use Rattle.tool_tasks.specs.declared.task.Task.TheVariants as task
use Rattle.load_port.specs.declared.port.Port.{Port}
use Rattle.load_port.specs.declared.record.Transfer.{Transfer}
use Rattle.load_port.specs.declared.record.Transfer.TheVariants.{TransferBlocked, ReadyToUnload}
use Rattle.load_port.specs.declared.record.Access.TheVariants.{Manual}
use Rattle.load_port.specs.declared.record.Reservation.TheVariants.{NotReserved}
use Rattle.load_port.specs.declared.record.Association.TheVariants.{Associated}
use Rattle.load_port.specs.Ports.{first_ports}
use Rattle.carrier.specs.declared.carrier.Carrier.{Carrier}
use Rattle.carrier.specs.declared.record.IdState.TheVariants as id
use Rattle.carrier.specs.declared.record.MapState.{MapState}
use Rattle.carrier.specs.declared.record.MapState.TheVariants as slots
use Rattle.carrier.specs.declared.record.Accessing.{Accessing}
use Rattle.carrier.specs.declared.record.Accessing.TheVariants as access
use Rattle.carrier.specs.Carriers.{read_map}
use Rattle.shop_floor.specs.Floor.{Floor, floor_of, with_carrier}
use Rattle.substrate.specs.Board.{spot_count}
use Rattle.substrate.specs.Places.{PlaceMap, no_places, location_number}
use Rattle.substrate.specs.Record.{first_location}
use Rattle.substrate.specs.declared.record.Occupancy.TheVariants.{Occupied}
use Rattle.substrate.specs.declared.record.Transport.{Transport}
use Rattle.substrate.specs.declared.record.Transport.TheVariants.{AtSource, AtWork, AtDestination}
use Rattle.substrate.specs.declared.record.Processing.{Processing}
use Rattle.substrate.specs.declared.record.Processing.TheVariants.{NeedsProcessing, InProcess, Processed, Lost}
use Rattle.substrate.specs.declared.record.LocationRecord.{LocationRecord}
use Rattle.robot_moves.specs.Modules.{first_modules}
use Rattle.robot_moves.specs.declared.module.Module.TheVariants.{Busy, Down}
use Rattle.tool_tasks.specs.Chambers.{chambers_to}
use Rattle.tool_tasks.specs.declared.recipes.Recipe.{Recipe}
use Rattle.tool_jobs.specs.Jobs.{no_jobs}
use Rattle.floor_model.specs.declared.tracked.Substrate.{Substrate}
use Rattle.floor_model.specs.Floor.{ToolFloor, with_module, fetched, change_location, change_numbered}
use Rattle.floor_model.specs.Machines.{floor_starts, floor_fired, floor_least, creation_rows}
use Rattle.floor_model.specs.Modules.{command, aligned}
use Rattle.floor_model.specs.Signals.{at_module, done_rows, closing_rows, lost_rows}

-- ---- what the floors are made of

-- the recipe of the tool, a route of one step that both chambers can do
abbrev pub recipes : List Recipe
recipes = record { name = codes "R1"; route = chambers_to 2 ∷ [] } ∷ []

-- the name of the substrate
abbrev pub wafer : List ℕ
wafer = codes "LOT7.03"

-- its slot, the third at port 1
abbrev pub own_slot : LocId
own_slot = Slot (record { 0 = 1 }) (record { 0 = 3 })

-- load port 1, to which the carrier belongs
abbrev pub loaded_port : Transfer → Port
loaded_port transfer = record {
  states = record { transfer = transfer; access = Manual; reservation = NotReserved; association = Associated };
  carrier = Some (codes "LOT7");
  arrival = None;
}

-- the carrier at port 1, whose third slot is correctly occupied and whose other slots are empty
abbrev pub lot : MapState → Accessing → Carrier
lot map accessing = record {
  number = 1;
  name = codes "LOT7";
  states = record { id = id.Verified; map = map; access = accessing };
  is_read = true;
  map = 1 ∷ 1 ∷ 3 ∷ replicate 22 1;
  host_map = None;
  port = Some (record { 0 = 1 });
  present = true;
  bound = false;
  stopped = false;
}

-- the load port and the carrier
abbrev pub shop_with : Transfer → MapState → Accessing → Floor
shop_with transfer map accessing = floor_of (loaded_port transfer ∷ []) (lot map accessing ∷ []) 2

-- the locations, each UNOCCUPIED
abbrev pub empty_locations : List LocationRecord
empty_locations = replicate (spot_count 1 2) first_location

-- a location is OCCUPIED
abbrev pub occupied : LocationRecord → LocationRecord
occupied l = record l { occupancy = Occupied }

-- the substrate alone has a place
abbrev pub places_with : LocId → PlaceMap
places_with loc = record { ports = 1; chambers = 2; held = record { sub = wafer; number = 1; at = loc } ∷ []; given = 1 }

-- no substrate has a place any more
abbrev pub left_places : PlaceMap
left_places = record { ports = 1; chambers = 2; held = []; given = 1 }

-- the substrate, which isn't aligned, with no step of its route done
abbrev pub wafer_with : Transport → Substrate
wafer_with transport = record {
  number = 1;
  sub = wafer;
  carrier = 1;
  slot = own_slot;
  states = record { transport = transport; processing = NeedsProcessing };
  aligned = false;
  steps = 0;
  job = 0;
}

-- the floor with the substrate at a place, where each module is Idle and no command was given
abbrev pub floor_with : LocId → Transfer → Accessing → Transport → ToolFloor
floor_with loc transfer accessing transport = record {
  shop = shop_with transfer slots.Verified accessing;
  modules = first_modules 2;
  places = places_with loc;
  locations = change_location (location_number 1 loc) occupied empty_locations;
  substrates = wafer_with transport ∷ [];
  commands = 0;
  jobs = no_jobs recipes;
}

-- a substrate with this state of processing
abbrev pub processed_so : Processing → Substrate → Substrate
processed_so p s = record s { states = record s.states { processing = p } }

-- a substrate with so many steps of its route done
abbrev pub with_steps : ℕ → Substrate → Substrate
with_steps n s = record s { steps = n }

-- ---- changes by hand

-- the substrate is aligned
abbrev pub is_aligned : ToolFloor → ToolFloor
is_aligned f = record f { substrates = change_numbered 1 aligned f.substrates }

-- this is its state of processing
abbrev pub processing_is : Processing → ToolFloor → ToolFloor
processing_is p f = record f { substrates = change_numbered 1 (processed_so p) f.substrates }

-- so many steps of its route are done
abbrev pub steps_are : ℕ → ToolFloor → ToolFloor
steps_are n f = record f { substrates = change_numbered 1 (with_steps n) f.substrates }

-- it has no place any more
abbrev pub is_nowhere : ToolFloor → ToolFloor
is_nowhere f = record f { places = left_places; locations = empty_locations }

-- so many commands were given
abbrev pub commands_are : ℕ → ToolFloor → ToolFloor
commands_are n f = record f { commands = n }

-- a module was given this command, which is the last that was given, and isn't fetched yet
abbrev pub is_given : ℕ → ℕ → Task → ToolFloor → ToolFloor
is_given number n task f = commands_are n (with_module number (λ m. Busy (command n task) false) f)

-- it was given and fetched
abbrev pub has_open : ℕ → ℕ → Task → ToolFloor → ToolFloor
has_open number n task f = fetched number (is_given number n task f)

-- a module is Down
abbrev pub is_down : ℕ → ToolFloor → ToolFloor
is_down number f = with_module number (λ m. Down) f

-- ---- the floors

-- the slot map waits for the host, and no substrate is registered
abbrev pub waiting : ToolFloor
waiting = record {
  shop = shop_with TransferBlocked slots.WaitingForHost access.NotAccessed;
  modules = first_modules 2;
  places = no_places 1 2;
  locations = empty_locations;
  substrates = [];
  commands = 0;
  jobs = no_jobs recipes;
}

-- the substrate is in its slot, and was nowhere else; each module is Idle
abbrev pub in_slot : ToolFloor
in_slot = floor_with own_slot TransferBlocked access.NotAccessed AtSource

-- the robot picks it there
abbrev pub picking : ToolFloor
picking = has_open 1 1 (task.Pick wafer own_slot) in_slot

-- it is at the aligner, on the arm or in a chamber, unfinished and not aligned
abbrev pub out_at : LocId → ToolFloor
out_at loc = floor_with loc TransferBlocked access.InAccess AtWork

-- the robot places it at the aligner
abbrev pub placing : ToolFloor
placing = has_open 1 2 (task.Place wafer Aligner) (out_at Arm)

-- the aligner aligns it
abbrev pub aligning : ToolFloor
aligning = has_open 2 3 (task.Align wafer) (out_at Aligner)

-- it is out at a place, unfinished and aligned
abbrev pub aligned_at : LocId → ToolFloor
aligned_at loc = is_aligned (out_at loc)

-- the robot picks it at the aligner
abbrev pub taking : ToolFloor
taking = has_open 1 4 (task.Pick wafer Aligner) (aligned_at Aligner)

-- the robot places it in chamber 1
abbrev pub filling : ToolFloor
filling = has_open 1 5 (task.Place wafer (Chamber 1)) (aligned_at Arm)

-- chamber 1 has a Process of it, and the substrate still NEEDS PROCESSING
abbrev pub beginning : ToolFloor
beginning = has_open 3 6 (task.Process wafer (codes "R1")) (aligned_at (Chamber 1))

-- chamber 1 processes it
abbrev pub working : ToolFloor
working = processing_is InProcess beginning

-- it is out at a place, aligned and finished by its one step
abbrev pub finished_at : LocId → ToolFloor
finished_at loc = steps_are 1 (processing_is Processed (aligned_at loc))

-- the robot places it in its slot
abbrev pub returning : ToolFloor
returning = has_open 1 8 (task.Place wafer own_slot) (finished_at Arm)

-- it is back in its slot, and its carrier may be taken away
abbrev pub back : ToolFloor
back = commands_are 8 (steps_are 1 (processing_is Processed (is_aligned (floor_with own_slot ReadyToUnload access.Complete AtDestination))))

-- it was lost out at a place, aligned, and its carrier may be taken away
abbrev pub lost_at : LocId → ToolFloor
lost_at loc = is_nowhere (processing_is Lost (is_aligned (floor_with loc ReadyToUnload access.Complete AtWork)))

-- the carrier was taken away, behind eight commands
abbrev pub emptied : ToolFloor
emptied = record {
  shop = floor_of (first_ports 1) [] 2;
  modules = first_modules 2;
  places = left_places;
  locations = empty_locations;
  substrates = [];
  commands = 8;
  jobs = no_jobs recipes;
}

-- ---- the floors with a second substrate

-- the name of the second substrate
abbrev pub second_wafer : List ℕ
second_wafer = codes "LOT7.07"

-- its slot, the seventh at port 1
abbrev pub second_slot : LocId
second_slot = Slot (record { 0 = 1 }) (record { 0 = 7 })

-- the seventh slot of the carrier is correctly occupied too
abbrev pub has_two_slots : ToolFloor → ToolFloor
has_two_slots f = record f { shop = with_carrier 1 (read_map (1 ∷ 1 ∷ 3 ∷ 1 ∷ 1 ∷ 1 ∷ 3 ∷ replicate 18 1)) f.shop }

-- the second substrate with its states, aligned or not, and with so many steps done
abbrev pub second_with : Transport → Processing → Bool → ℕ → Substrate
second_with transport processing is_so steps = record {
  number = 2;
  sub = second_wafer;
  carrier = 1;
  slot = second_slot;
  states = record { transport = transport; processing = processing };
  aligned = is_so;
  steps = steps;
  job = 0;
}

-- it is at a place, behind the first
abbrev pub places_of_both : LocId → PlaceMap → PlaceMap
places_of_both loc p = record p { held = p.held ++ record { sub = second_wafer; number = 2; at = loc } ∷ []; given = 2 }

-- the floor with it at a place
abbrev pub with_second : LocId → Substrate → ToolFloor → ToolFloor
with_second loc s f =
    record (has_two_slots f) {
      places = places_of_both loc f.places;
      locations = change_location (location_number 1 loc) occupied f.locations;
      substrates = f.substrates ++ s ∷ [];
    }

-- it is in its slot, and was nowhere else
abbrev pub second_in_slot : ToolFloor → ToolFloor
second_in_slot f = with_second second_slot (second_with AtSource NeedsProcessing false 0) f

-- it is out at a place, unfinished and aligned
abbrev pub second_aligned_at : LocId → ToolFloor → ToolFloor
second_aligned_at loc f = with_second loc (second_with AtWork NeedsProcessing true 0) f

-- it is out at a place, aligned and finished
abbrev pub second_finished_at : LocId → ToolFloor → ToolFloor
second_finished_at loc f = with_second loc (second_with AtWork Processed true 1) f

-- ---- what fires

-- a firing, and behind it the rows of what it creates
abbrev pub with_created : Firing → ToolFloor → List Firing
with_created x f = x ∷ creation_rows x f

-- the floor behind these firings
abbrev pub behind_all : List Firing → ToolFloor → ToolFloor
behind_all [] f = f
behind_all (x ∷ xs) f = behind_all xs (floor_fired x f)

-- of the rows that an input lists those that fire: one that doesn't start where it is reached is left out
abbrev pub starting : List Firing → ToolFloor → List Firing
starting [] f = []
starting (x ∷ xs) f =
    if floor_starts x f then with_created x f ++ starting xs (behind_all (with_created x f) f) else starting xs f

-- the rows that fire by themselves, the least that is ready each time, so many times at most
abbrev pub settling_from : Option Firing → ℕ → ToolFloor → List Firing
settling_from None count f = []
settling_from (Some x) zero f = []
settling_from (Some x) (suc count) f =
    with_created x f ++ settling_from (floor_least (behind_all (with_created x f) f)) count (behind_all (with_created x f) f)

-- the rows that fire by themselves until none is ready; on each floor here that is so behind fewer than twenty
abbrev pub settling : ToolFloor → List Firing
settling f = settling_from (floor_least f) 20 f

-- the floor behind them, at rest
abbrev pub settled : ToolFloor → ToolFloor
settled f = behind_all (settling f) f

-- all that fires behind an input that lists rows on a floor
abbrev pub firings : (ToolFloor → List Firing) → ToolFloor → List Firing
firings rows f = starting (rows f) f ++ settling (behind_all (starting (rows f) f) f)

-- the floor behind that input, at rest
abbrev pub behind : (ToolFloor → List Firing) → ToolFloor → ToolFloor
behind rows f = behind_all (firings rows f) f

-- ---- the inputs, by the rows that they list

-- a module did its open command
abbrev pub done : ℕ → ToolFloor → List Firing
done number f = done_rows number f

-- a module failed at its open command
abbrev pub failed : ℕ → ToolFloor → List Firing
failed number f = closing_rows 8 number f

-- a module went down
abbrev pub went_down : ℕ → ToolFloor → List Firing
went_down number f = closing_rows 9 number f

-- the operator brings a module up
abbrev pub brought_up : ℕ → ToolFloor → List Firing
brought_up number f = at_module 10 number

-- the operator says that the substrate is lost
abbrev pub said_lost : ToolFloor → List Firing
said_lost f = lost_rows wafer f

-- the host proceeds with the carrier, whose map waits
abbrev pub proceeded : ToolFloor → List Firing
proceeded f = firing 9 1 3 ∷ []

-- the carrier is taken away from port 1
abbrev pub taken_away : ToolFloor → List Firing
taken_away f = firing 4 1 5 ∷ firing 7 1 6 ∷ []

-- all that fires where these modules do their open commands, one after the other
abbrev pub all_done : List ℕ → ToolFloor → List Firing
all_done [] f = []
all_done (m ∷ ms) f = firings (done m) f ++ all_done ms (behind (done m) f)

-- the floor behind that
abbrev pub behind_dones : List ℕ → ToolFloor → ToolFloor
behind_dones [] f = f
behind_dones (m ∷ ms) f = behind_dones ms (behind (done m) f)

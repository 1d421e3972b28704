-- How the places of substrates change in a history, and how the commands of modules end (after SEMI E90; this tool's profile, substrates
-- and moves).
use Rattle.std.specs.Prelude.{◌≡◌, ◌≤◌, ◌<◌, ℕ, Bool, if◌then◌else◌, List, [], ◌∷◌, Option, Some, None}
use Rattle.gem_ids.specs.declared.numbers.LocId.{LocId}
use Rattle.gem_ids.specs.declared.numbers.PortNo.{PortNo}
use Rattle.gem_ids.specs.declared.numbers.ModuleId.{ModuleId}
use Rattle.tool_tasks.specs.declared.task.Command.{Command}
use Rattle.tool_tasks.specs.declared.task.Task.TheVariants as task
use Rattle.tool_events.specs.declared.entry.Entry.{Entry}
use Rattle.tool_events.specs.declared.event.Event.{Event}
use Rattle.tool_events.specs.declared.event.Event.TheVariants as event
use Rattle.tool_events.specs.declared.event.OperCmd.TheVariants as oper
use Rattle.tool_events.specs.declared.event.Signal.TheVariants as signal
use Rattle.robot_moves.specs.declared.module.Module.{Module}
use Rattle.robot_moves.specs.declared.module.Module.TheVariants.{Idle, Busy, Down}
use Rattle.robot_moves.specs.Modules.{is_open}
use Rattle.floor_model.specs.Modules.{number_named}
use Rattle.floor_moves.specs.Floor.{Loc, slot, arm}
use Rattle.place_laws.specs.Picture.{loc_of, place_in}
use Rattle.gem_model.specs.State.{State}
use Rattle.gem_model.specs.Signals.{module_of}
use Rattle.gem_model.specs.Run.{entry_after}

-- ---- places

-- the place of the substrate of a number of registration, where it has one
abbrev pub place_of : ℕ → State → Option Loc
place_of n g = place_in g.floor.places n

-- a module has this command open
abbrev pub HasOpen : ModuleId → Command → State → Type 0
HasOpen m c g = (fetched : Bool) × (module_of m.0 g ≡ Some (Busy c fetched))

-- What becomes of the place of the substrate of a number in a step. It stays. It is a slot, under a number that is given in this step and was
-- not given before: the substrate is registered. It is Removed: from its slot with the carrier that is taken away from that port, or by the operator's word that
-- names it. Or it changes by Done of the open command of a module: of a Pick that names it, from where it is to the arm, or of a Place that
-- names it, from the arm to the named end.
pub data Moves (g : State) (n : ℕ) (e : Event) (h : State) : Type 0 where
  stays : place_of n h ≡ place_of n g → Moves g n e h
  is_registered : (p k : ℕ) → g.floor.places.given < n → n ≤ h.floor.places.given → place_of n g ≡ None → place_of n h ≡ Some (slot p k) → Moves g n e h
  goes_with_carrier : (port : PortNo) (k : ℕ) → e ≡ event.Signal (signal.Removed port) → place_of n g ≡ Some (slot port.0 k) → place_of n h ≡ None → Moves g n e h
  is_lost : (sub : List ℕ) → e ≡ event.Oper (oper.Lost sub) → number_named sub g.floor.places ≡ Some n → place_of n h ≡ None → Moves g n e h
  by_pick : (m : ModuleId) (c : Command) (sub : List ℕ) (from : LocId) → e ≡ event.Signal (signal.Done m c.number) → HasOpen m c g → c.task ≡ task.Pick sub from → number_named sub g.floor.places ≡ Some n
      → place_of n g ≡ Some (loc_of from) → place_of n h ≡ Some arm → Moves g n e h
  by_place : (m : ModuleId) (c : Command) (sub : List ℕ) (to : LocId) → e ≡ event.Signal (signal.Done m c.number) → HasOpen m c g → c.task ≡ task.Place sub to → number_named sub g.floor.places ≡ Some n
      → place_of n g ≡ Some arm → place_of n h ≡ Some (loc_of to) → Moves g n e h

-- Each substrate moves so, at each entry from a state on; and numbers of registration are never taken back.
abbrev pub EachMoves : State → List Entry → Type 0
EachMoves g [] = Unit {0}
EachMoves g (entry ∷ entries) =
    (g.floor.places.given ≤ (entry_after g entry).floor.places.given) × ((n : ℕ) → Moves g n entry.event (entry_after g entry)) × EachMoves (entry_after g entry) entries

-- ---- commands

-- this number, where the module has a command of it open
abbrev pub if_open : ℕ → Option Module → Option ℕ
if_open number m = if is_open number m then Some number else None

-- the number of the open command of a module
abbrev pub open_number : Option Module → Option ℕ
open_number None = None
open_number (Some Idle) = None
open_number (Some (Busy c fetched)) = Some c.number.0
open_number (Some Down) = None

-- the number of the open command that an event ends: by Done, by Failed or by Down; none once the run has ended
abbrev pub ended_by : State → Event → Option ℕ
ended_by g e = if g.quitting then None else of e
  where
    of : Event → Option ℕ
    of (event.Signal (signal.Done m number)) = if_open number.0 (module_of m.0 g)
    of (event.Signal (signal.Failed m number)) = if_open number.0 (module_of m.0 g)
    of (event.Signal (signal.Down m)) = open_number (module_of m.0 g)
    of _ = None

-- the command of this number ends at none of these entries
abbrev pub NeverEnds : ℕ → State → List Entry → Type 0
NeverEnds number g [] = Unit {0}
NeverEnds number g (entry ∷ entries) = (ended_by g entry.event ≡ Some number → ⊥) × NeverEnds number (entry_after g entry) entries

-- each number ends at most once
abbrev pub EndsOnce : State → List Entry → Type 0
EndsOnce g [] = Unit {0}
EndsOnce g (entry ∷ entries) = ((number : ℕ) → ended_by g entry.event ≡ Some number → NeverEnds number (entry_after g entry) entries) × EndsOnce (entry_after g entry) entries

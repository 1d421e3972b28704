-- A lot of one substrate in the tool: a state with a floor made by hand, and the Dones of its commands.
use Rattle.std.specs.Prelude.{ℕ, suc, Bool, true, ◌&&◌, List, [], ◌∷◌, codes}
use Rattle.tool_events.specs.declared.entry.Entry.{Entry}
use Rattle.tool_tasks.specs.declared.words.JobWord.{JobWord}
use Rattle.tool_events.specs.declared.event.Event.{Event}
use Rattle.tool_events.specs.declared.event.Event.TheVariants as event
use Rattle.tool_events.specs.declared.event.OperCmd.TheVariants as oper
use Rattle.tool_events.specs.declared.event.Signal.TheVariants as signal
use Rattle.floor_model.specs.Floor.{ToolFloor}
use Rattle.gem_model.specs.Conversation.{worked_config}
use Rattle.gem_model.specs.State.{State, opening}
use Rattle.gem_model.specs.Run.{entry_after}
use Rattle.history_laws.specs.Calm.{is_calm}
use Rattle.worked_floors.specs.Worked.{settled}
use Rattle.worked_floors.specs.Jobs.{by_two_steps, created, named_twice}

-- the tool as it begins, but for its floor
abbrev pub tool_with : ToolFloor → State
tool_with f = record (opening worked_config) { floor = f }

-- the tool with the lot, as its control job is EXECUTING and the robot has its first command
abbrev pub begun : State
begun = tool_with (settled (created true))

-- the tool with the lot whose slot two process jobs name, as its control job is EXECUTING and the robot has its first command
abbrev pub begun_twice : State
begun_twice = tool_with (settled named_twice)

-- the tool with the lot whose recipe is a route of two steps, as its control job is EXECUTING and the robot has its first command
abbrev pub begun_by_two_steps : State
begun_by_two_steps = tool_with (settled (by_two_steps (created true)))

-- the entry of an event, at the first moment
abbrev pub entry_of : Event → Entry
entry_of e = record { seat = 0; at = record { 0 = 0 }; event = e }

-- a module did the command of a number, or failed at it; a module went down
abbrev pub did : ℕ → ℕ → Entry
did m number = entry_of (event.Signal (signal.Done (record { 0 = m }) (record { 0 = number })))

abbrev pub failed_at : ℕ → ℕ → Entry
failed_at m number = entry_of (event.Signal (signal.Failed (record { 0 = m }) (record { 0 = number })))

abbrev pub was_down : ℕ → Entry
was_down m = entry_of (event.Signal (signal.Down (record { 0 = m })))

-- the operator's word for the process job of the lot
abbrev pub said : JobWord → Entry
said word = entry_of (event.Oper (oper.Job (codes "PJ1") word))

-- modules did the commands from a number on, one behind the other
abbrev pub did_from : ℕ → List ℕ → List Entry
did_from number [] = []
did_from number (m ∷ ms) = did m number ∷ did_from (suc number) ms

-- each of these entries is calm
abbrev pub are_calm : ℕ → (ℕ → Bool) → State → List Entry → Bool
are_calm number counted g [] = true
are_calm number counted g (entry ∷ entries) = is_calm number counted g entry && are_calm number counted (entry_after g entry) entries

-- What an entry of a history adds to the counts.
use Rattle.std.specs.Prelude.{ℕ, ◌+◌, ◌==◌, Bool, ◌&&◌, if◌then◌else◌, List, [], ◌∷◌, length, Option, Some, None}
use Rattle.std.specs.List.{count_by, filter}
use Rattle.gem_tables.specs.declared.firing.Firing.{Firing}
use Rattle.tool_events.specs.declared.entry.Entry.{Entry}
use Rattle.tool_events.specs.declared.event.Event.{Event}
use Rattle.tool_events.specs.declared.event.Event.TheVariants as event
use Rattle.tool_events.specs.declared.event.Signal.TheVariants as signal
use Rattle.robot_moves.specs.Modules.{is_open}
use Rattle.gem_model.specs.State.{State, raised}
use Rattle.gem_model.specs.Signals.{module_of}
use Rattle.gem_model.specs.Settle.{settling}
use Rattle.gem_model.specs.Step.{Outcome, acts}
use Rattle.gem_model.specs.Run.{entry_after}

-- ---- commands

-- how many commands the event ends by Done: the one of its number, where that is the open command of the module; none once the
-- operator ended the run (this tool's profile, moves)
abbrev pub done_by : State → Event → ℕ
done_by g (event.Signal (signal.Done m number)) = if g.quitting then 0 else if is_open number.0 (module_of m.0 g) then 1 else 0
done_by g _ = 0

-- ---- control jobs

-- row 8 of table 15: a control job is COMPLETED, since no process job is left in it (after SEMI E94; this tool's profile, table 15)
abbrev pub completes : Firing → Bool
completes f = (f.row.table == 15) && (f.row.row == 8)

-- how many of these firings are of that row
abbrev pub completions : List Firing → ℕ
completions fs = count_by completes fs

-- how many are, while the tool settles behind what an event did, if it did something
abbrev pub completed_behind : Option Outcome → ℕ
completed_behind None = 0
completed_behind (Some o) = completions (settling o.after)

-- How many control jobs the step of an event completes so, in a state whose moment is raised from the one before. The row fires by
-- itself alone, that is while the tool settles. Once the operator ended the run nothing fires.
abbrev pub completed_from : ℕ → State → Event → ℕ
completed_from before g e = if g.quitting then 0 else completed_behind (acts before g e)

-- the same for an event that is posted with a moment
abbrev pub completed_by : State → ℕ → Event → ℕ
completed_by g at e = completed_from g.moment (raised g at) e

-- ---- registrations

-- row 1 of table 12: a substrate is registered (after SEMI E90; this tool's profile, table 12)
abbrev pub is_registration : Firing → Bool
is_registration f = (f.row.table == 12) && (f.row.row == 1)

-- how many of these firings are of that row
abbrev pub registrations : List Firing → ℕ
registrations fs = length (filter is_registration fs)

-- ---- a history

-- what a count adds up to over the entries, each of which adds to it by the state before it
abbrev pub summed : (State → Entry → ℕ) → State → List Entry → ℕ
summed count g [] = 0
summed count g (entry ∷ entries) = count g entry + summed count (entry_after g entry) entries

-- how many commands were ended by Done
abbrev pub done_in : State → List Entry → ℕ
done_in g entries = summed (λ h entry. done_by h entry.event) g entries

-- how many control jobs were completed by row 8
abbrev pub completed_in : State → List Entry → ℕ
completed_in g entries = summed (λ h entry. completed_by h entry.at.0 entry.event) g entries

-- What each row of tables 10, 12, 13 and 16 does (after SEMI E87 and E90; this tool's profile, tables 10, 12, 13 and 16).
use Rattle.std.specs.Prelude.{ℕ, ◌+◌, true, Some, None}
use Rattle.floor_moves.specs.Floor.{Loc, Task, Module, idle, busy, Floor, set}

-- ---- tables 10, 12 and 13: a state anew

-- a carrier is in this state of table 10
abbrev pub accessed : ℕ → ℕ → Floor → Floor
accessed c state g = record g { access = set c state g.access }

-- a substrate is in this state of table 12
abbrev pub transported : ℕ → ℕ → Floor → Floor
transported n state g = record g { transport = set n state g.transport }

-- a substrate is in this state of table 13
abbrev pub worked : ℕ → ℕ → Floor → Floor
worked n state g = record g { processing = set n state g.processing }

-- row 3 of table 13: the last step of the route of a substrate is done, and it is PROCESSED
abbrev pub processed : ℕ → Floor → Floor
processed n g = record g { processing = set n 2 g.processing; steps_of = set n (g.steps_of n + 1) g.steps_of }

-- row 8 of table 13: the substrate is LOST, and its place is Removed
abbrev pub lost : ℕ → Floor → Floor
lost n g = record g { processing = set n 6 g.processing; place_of = set n None g.place_of }

-- ---- table 16: a command is issued

-- a module has a command of this task, under the next number
abbrev pub issued : ℕ → Task → Floor → Floor
issued m task g =
    record g { equipment = set m (busy (record { number = g.next_command; task = task })) g.equipment; next_command = g.next_command + 1 }

-- ---- table 16: a command is closed

-- a module is in a state, and has no command
abbrev pub turned : ℕ → Module → Floor → Floor
turned m state g = record g { equipment = set m state g.equipment }

-- a substrate goes to a location, and the module is Idle
abbrev pub moved : ℕ → Loc → ℕ → Floor → Floor
moved n to m g = record g { place_of = set n (Some to) g.place_of; equipment = set m idle g.equipment }

-- row 6, Done of Align: the substrate is aligned; Idle
abbrev pub aligned : ℕ → ℕ → Floor → Floor
aligned n m g = record g { is_aligned = set n true g.is_aligned; equipment = set m idle g.equipment }

-- row 7, Done of Process, where the step of the substrate isn't the last and its job isn't ABORTING: the step is done; Idle
abbrev pub stepped : ℕ → ℕ → Floor → Floor
stepped n m g = record g { steps_of = set n (g.steps_of n + 1) g.steps_of; equipment = set m idle g.equipment }

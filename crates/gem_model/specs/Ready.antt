-- The rows of single tables that are ready by themselves, as callers look for them one after another (this tool's profile, settling).
use Rattle.std.specs.Prelude.{Option, option_map}
use Rattle.gem_tables.specs.Table.{firing}
use Rattle.gem_tables.specs.declared.firing.Firing.{Firing}
use Rattle.note_line.specs.Table3 as line
use Rattle.floor_model.specs.Machines.{floor_least}
use Rattle.gem_model.specs.State.{State, around}

-- table 3: the rows of the line of notes, by what lies around it
abbrev pub ready_line : State → Option Firing
ready_line g = option_map (firing 3 0) (line.least (around g) g.line)

-- tables 4 to 16: the rows of the floor of the tool
abbrev pub ready_floor : State → Option Firing
ready_floor g = floor_least g.floor

-- Work that is left on the floor of the tool, and what its modules are at (after SEMI E40; this tool's profile, table 14 and
-- moves).
use Rattle.std.specs.Prelude.{ℕ, Bool, true, false, not, ◌&&◌, ◌||◌, List}
use Rattle.std.specs.List.{list_any}
use Rattle.process_job.specs.declared.job.ProcessJob.{ProcessJob}
use Rattle.process_job.specs.declared.record.JobState.{JobState}
use Rattle.process_job.specs.declared.record.JobState.TheVariants.{Pausing}
use Rattle.robot_moves.specs.declared.module.Module.{Module}
use Rattle.robot_moves.specs.declared.module.Module.TheVariants.{Busy, Down}
use Rattle.substrate.specs.Places.{PlaceMap}
use Rattle.floor_model.specs.declared.tracked.Substrate.{Substrate}
use Rattle.floor_model.specs.Floor.{ToolFloor}
use Rattle.floor_model.specs.Substrates.{is_outside}
use Rattle.floor_model.specs.Jobs.{is_member, is_settled, is_processing, is_ending}

-- ---- process jobs

-- a process job is PAUSING
abbrev pub is_pausing : JobState → Bool
is_pausing Pausing = true
is_pausing _ = false

-- a substrate is a member of the process job of this number, and is outside: at the aligner, on the arm or in a chamber
abbrev pub is_member_outside : ℕ → PlaceMap → Substrate → Bool
is_member_outside number p s = is_member number s && is_outside s p

-- A process job has work left: it is PROCESSING, STOPPING or ABORTING, and not each of its members is finished and in its slot or
-- removed; or it is PAUSING, and a member is outside.
abbrev pub has_work : ToolFloor → ProcessJob → Bool
has_work f j =
    (is_processing j.states.state || is_ending j) && not (is_settled j.number f)
    || is_pausing j.states.state && list_any (is_member_outside j.number f.places) f.substrates

-- work is left: a process job that is kept has some
abbrev pub is_work_left : ToolFloor → Bool
is_work_left f = list_any (has_work f) f.jobs.process.kept

-- ---- modules

-- a module is Down
abbrev pub is_down : Module → Bool
is_down Down = true
is_down _ = false

-- one of these is
abbrev pub is_any_down : List Module → Bool
is_any_down modules = list_any is_down modules

-- a module has an open command
abbrev pub has_open : Module → Bool
has_open (Busy command fetched) = true
has_open _ = false

-- one of these has: a command is open
abbrev pub is_any_open : List Module → Bool
is_any_open modules = list_any has_open modules

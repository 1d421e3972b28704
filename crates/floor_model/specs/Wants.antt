-- What the rows of carriers, locations and substrates want of each other and of the jobs (after SEMI E87 and SEMI E90; this tool's
-- profile, tables 10 to 13). The tables are in carrier and substrate.
use Rattle.std.specs.Prelude.{ℕ, Bool, true, false, not, ◌&&◌, ◌||◌, if◌then◌else◌, Option, Some, None}
use Rattle.std.specs.List.{list_any, list_all}
use Rattle.carrier.specs.Tables as carrier_want
use Rattle.carrier.specs.Tables.{CarrierWant}
use Rattle.carrier.specs.Wants.{carrier_wants}
use Rattle.carrier.specs.declared.carrier.Carrier.{Carrier}
use Rattle.substrate.specs.Tables as want
use Rattle.substrate.specs.Tables.{SubstrateWant}
use Rattle.substrate.specs.Places.{PlaceMap, is_taken_at}
use Rattle.substrate.specs.Record.{is_in_process}
use Rattle.process_job.specs.declared.record.JobState.{JobState}
use Rattle.floor_model.specs.declared.tracked.Substrate.{Substrate}
use Rattle.floor_model.specs.Floor.{ToolFloor}
use Rattle.floor_model.specs.Naming.{module_names, processes}
use Rattle.floor_model.specs.Substrates.{is_outside, is_in_slot, is_removed, is_of}
use Rattle.floor_model.specs.Jobs.{is_any_of_carrier, job_of, is_job_so, is_stopping, is_aborting}

-- a substrate of the carrier of this number is outside
abbrev pub has_outside : ℕ → ToolFloor → Bool
has_outside carrier f = list_any (λ s. is_of carrier s && is_outside s f.places) f.substrates

-- the substrate is in its slot, or removed, where it is of the carrier of this number
abbrev pub is_back : ℕ → PlaceMap → Substrate → Bool
is_back carrier p s = not (is_of carrier s) || (is_in_slot s p || is_removed s p)

-- each substrate of the carrier of this number is in its slot or removed
abbrev pub are_back : ℕ → ToolFloor → Bool
are_back carrier f = list_all (is_back carrier f.places) f.substrates

-- a carrier is quiet: no process job names it, and each of its substrates is in its slot or removed (this tool's profile, table 10)
abbrev pub is_quiet : Carrier → ToolFloor → Bool
is_quiet c f = not (is_any_of_carrier c.name f.jobs) && are_back c.number f

-- what a row of accessing wants
abbrev pub accessing_wants : CarrierWant → Carrier → ToolFloor → Bool
accessing_wants carrier_want.substrate_outside c f = has_outside c.number f
accessing_wants carrier_want.quiet c f = is_quiet c f && not c.stopped
accessing_wants carrier_want.quiet_and_stopped c f = is_quiet c f && c.stopped
accessing_wants other c f = carrier_wants other c

-- what a row of the location of a number wants: a substrate is there, or none is
abbrev pub location_wants : SubstrateWant → ℕ → PlaceMap → Bool
location_wants want.nothing_more number p = true
location_wants want.substrate_there number p = is_taken_at number p
location_wants want.none_there number p = not (is_taken_at number p)
location_wants _ number p = false

-- it is in its slot, its process job is STOPPING or ABORTING, and no open command names it
abbrev pub is_skipped : Substrate → ToolFloor → Bool
is_skipped s f =
    (is_job_so is_stopping (job_of s f.jobs) || is_job_so is_aborting (job_of s f.jobs))
    && (is_in_slot s f.places && not (list_any (module_names s.sub) f.modules))

-- no open Process command names it where it is IN PROCESS
abbrev pub is_between : Substrate → ToolFloor → Bool
is_between s f = not (is_in_process s.states.processing && list_any (processes s.sub) f.modules)

-- it is outside, its process job is in such a state, and no open Process command names it where it is IN PROCESS
abbrev pub is_outside_of : (JobState → Bool) → Substrate → ToolFloor → Bool
is_outside_of test s f = (is_outside s f.places && is_job_so test (job_of s f.jobs)) && is_between s f

-- what a row of a substrate wants
abbrev pub substrate_wants : SubstrateWant → Substrate → ToolFloor → Bool
substrate_wants want.nothing_more s f = true
substrate_wants want.outside s f = is_outside s f.places
substrate_wants want.in_slot s f = is_in_slot s f.places
substrate_wants want.process_names_it s f = list_any (processes s.sub) f.modules
substrate_wants want.in_slot_of_ending_job s f = is_skipped s f
substrate_wants want.outside_of_stopping_job s f = is_outside_of is_stopping s f
substrate_wants want.outside_of_aborting_job s f = is_outside_of is_aborting s f
substrate_wants _ s f = false

-- the row of table 13 by which a substrate outside ends with its process job: 6 where the job is STOPPING, 7 where it is ABORTING
abbrev pub stopping_row : Substrate → ToolFloor → Option ℕ
stopping_row s f = if is_outside_of is_stopping s f then Some 6 else (if is_outside_of is_aborting s f then Some 7 else None)

-- that by which one that NEEDS PROCESSING does: 5 in its slot, else as outside
abbrev pub ending_row : Substrate → ToolFloor → Option ℕ
ending_row s f = if is_skipped s f then Some 5 else stopping_row s f

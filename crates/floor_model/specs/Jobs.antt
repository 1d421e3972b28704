-- The jobs on the floor of the tool: which substrates are members of a process job, what the floor shows of it, and what its rows do to
-- carriers and substrates (after SEMI E40 and SEMI E94; this tool's profile, tables 14 and 15). The tables are in process_job and
-- control_job.
use Rattle.std.specs.Prelude.{ℕ, ◌==◌, Bool, true, false, not, ◌&&◌, ◌||◌, if◌then◌else◌, List, [], ◌∷◌, map, Option, Some, None}
use Rattle.std.specs.List.{list_any, list_all}
use Rattle.std.specs.Str.{bytes_eq}
use Rattle.gem_tables.specs.Table.{is_one_of, row_of}
use Rattle.gem_ids.specs.declared.numbers.LocId.{LocId}
use Rattle.gem_ids.specs.declared.numbers.LocId.TheVariants.{Slot}
use Rattle.load_port.specs.declared.caack.Caack.{Caack}
use Rattle.load_port.specs.Ports.{view_of}
use Rattle.carrier.specs.declared.action.CarrierAction.{CarrierAction}
use Rattle.carrier.specs.Verdict.{carrier_caack}
use Rattle.carrier.specs.declared.carrier.Carrier.{Carrier}
use Rattle.carrier.specs.declared.record.Accessing.{Accessing}
use Rattle.carrier.specs.declared.record.Accessing.TheVariants.{NotAccessed, InAccess}
use Rattle.carrier.specs.Record.{is_map_verified}
use Rattle.carrier.specs.Carriers.{carrier_named}
use Rattle.process_job.specs.Tables as effect
use Rattle.process_job.specs.Tables.{JobRow, JobEffect, job_table}
use Rattle.process_job.specs.Jobs.{job_numbered}
use Rattle.process_job.specs.declared.job.Material.{Material}
use Rattle.process_job.specs.declared.job.ProcessJob.{ProcessJob}
use Rattle.process_job.specs.declared.record.JobState.{JobState}
use Rattle.process_job.specs.declared.record.JobState.TheVariants.{Processing, Stopping, Aborting}
use Rattle.robot_moves.specs.declared.module.Module.{Module}
use Rattle.shop_floor.specs.Floor.{Floor, with_marked}
use Rattle.substrate.specs.Places.{PlaceMap}
use Rattle.substrate.specs.Record.{is_at_source, is_needing, is_finished}
use Rattle.tool_jobs.specs.Jobs.{Jobs, first_left_in}
use Rattle.tool_jobs.specs.Rows as jobs
use Rattle.tool_jobs.specs.declared.sight.Sight.{Sight}
use Rattle.floor_model.specs.declared.tracked.Substrate.{Substrate}
use Rattle.floor_model.specs.Floor.{ToolFloor, with_shop, with_jobs}
use Rattle.floor_model.specs.Substrates.{is_outside, is_in_slot, is_removed}
use Rattle.floor_model.specs.Naming.{module_names}

-- ---- members

-- a substrate is a member of the process job of this number
abbrev pub is_member : ℕ → Substrate → Bool
is_member number s = s.job == number

-- the carrier of this number has this name
abbrev pub is_carrier_of : List ℕ → ℕ → Carrier → Bool
is_carrier_of name number c = (c.number == number) && bytes_eq c.name name

-- a slot is among those that are named; where none is named, each is
abbrev pub is_slot_named : List ℕ → LocId → Bool
is_slot_named [] loc = true
is_slot_named (n ∷ slots) (Slot p k) = is_one_of (n ∷ slots) k.0
is_slot_named (n ∷ slots) _ = false

-- a job's material names the slot of a substrate
abbrev pub names_slot_of : Floor → Substrate → Material → Bool
names_slot_of shop s m = list_any (is_carrier_of m.carrier s.carrier) shop.carriers && is_slot_named m.slots s.slot

-- A substrate becomes a member of a process job that is set up: it is in a slot that the job names, all of a carrier where no slot of it
-- is named, AT SOURCE, NEEDS PROCESSING and in no job.
abbrev pub can_join : ProcessJob → Floor → Substrate → Bool
can_join j shop s =
    (is_at_source s.states.transport && is_needing s.states.processing)
    && ((s.job == 0) && list_any (names_slot_of shop s) j.material)

abbrev pub joined : ProcessJob → Floor → Substrate → Substrate
joined j shop s = if can_join j shop s then record s { job = j.number } else s

-- the members of a process job that is set up
abbrev pub with_members : ProcessJob → ToolFloor → ToolFloor
with_members j f = record f { substrates = map (joined j f.shop) f.substrates }

-- a substrate is in no job where it was a member of the job of this number, which has ended
abbrev pub freed : ℕ → Substrate → Substrate
freed number s = if is_member number s then record s { job = 0 } else s

abbrev pub without_members : ℕ → ToolFloor → ToolFloor
without_members number f = record f { substrates = map (freed number) f.substrates }

-- the carriers that are named are marked stopped
abbrev pub all_marked : List Material → Floor → Floor
all_marked [] shop = shop
all_marked (m ∷ ms) shop = all_marked ms (with_marked m.carrier shop)

abbrev pub marks : ProcessJob → ToolFloor → ToolFloor
marks j f = with_shop (all_marked j.material f.shop) f

-- ---- what the floor shows of a process job

-- NOT ACCESSED or IN ACCESS
abbrev pub is_in_use : Accessing → Bool
is_in_use NotAccessed = true
is_in_use InAccess = true
is_in_use _ = false

-- the carrier is present, its map is VERIFIED, and it is NOT ACCESSED or IN ACCESS
abbrev pub is_carrier_here : Option Carrier → Bool
is_carrier_here None = false
is_carrier_here (Some c) = c.present && (is_map_verified c.states.map && is_in_use c.states.access)

abbrev pub is_material_here : Floor → Material → Bool
is_material_here shop m = is_carrier_here (carrier_named m.carrier shop.carriers)

-- the material of a process job is here: each carrier that it names is
abbrev pub is_here : ProcessJob → Floor → Bool
is_here j shop = list_all (is_material_here shop) j.material

-- a substrate is finished, and in its slot or removed, where it is a member of the process job of a number
abbrev pub is_done_with : ℕ → PlaceMap → Substrate → Bool
is_done_with number p s = not (is_member number s) || (is_finished s.states.processing && (is_in_slot s p || is_removed s p))

-- each member is
abbrev pub is_settled : ℕ → ToolFloor → Bool
is_settled number f = list_all (is_done_with number f.places) f.substrates

-- a substrate isn't outside, and no open command names it, where it is a member of the process job of a number
abbrev pub is_at_rest : ℕ → PlaceMap → List Module → Substrate → Bool
is_at_rest number p modules s = not (is_member number s) || (not (is_outside s p) && not (list_any (module_names s.sub) modules))

-- each member is so
abbrev pub is_still : ℕ → ToolFloor → Bool
is_still number f = list_all (is_at_rest number f.places f.modules) f.substrates

-- what the floor shows
abbrev pub sight : ProcessJob → ToolFloor → Sight
sight j f = record { here = is_here j f.shop; settled = is_settled j.number f; still = is_still j.number f }

-- that of a job that was looked for; where there is none it shows nothing
abbrev pub found_sight : Option ProcessJob → ToolFloor → Sight
found_sight None f = record { here = false; settled = false; still = false }
found_sight (Some j) f = sight j f

-- the material of a process job that was looked for is here
abbrev pub is_found_here : Option ProcessJob → Floor → Bool
is_found_here None shop = false
is_found_here (Some j) shop = is_here j shop

-- that of the first process job that is left in the control job of a number
abbrev pub is_first_here : ℕ → ToolFloor → Bool
is_first_here number f = is_found_here (first_left_in number f.jobs) f.shop

-- ---- what rows do to carriers and substrates

-- a process job gets its members, where there is one
abbrev pub gets_members : Option ProcessJob → ToolFloor → ToolFloor
gets_members None f = f
gets_members (Some j) f = with_members j f

-- its members are in no job any more
abbrev pub frees : Option ProcessJob → ToolFloor → ToolFloor
frees None f = f
frees (Some j) f = without_members j.number f

-- its carriers are marked stopped
abbrev pub stops_carriers : Option ProcessJob → ToolFloor → ToolFloor
stops_carriers None f = f
stops_carriers (Some j) f = marks j f

-- what the word of a row of a process job does to them
abbrev pub job_does : JobEffect → Option ProcessJob → ToolFloor → ToolFloor
job_does effect.no_more o f = f
job_does effect.makes_members o f = gets_members o f
job_does effect.ends o f = frees o f
job_does effect.ends_stopped o f = stops_carriers o (frees o f)

abbrev pub found_job_does : Option JobRow → Option ProcessJob → ToolFloor → ToolFloor
found_job_does None j f = f
found_job_does (Some r) j f = job_does r.does j f

-- the floor behind a row at the process job of a number
abbrev pub process_behind : ℕ → ℕ → ToolFloor → ToolFloor
process_behind row number f =
    with_jobs (jobs.process_fired row number f.jobs) (found_job_does (row_of job_table row) (job_numbered number f.jobs.process.kept) f)

-- ---- what rows of carriers and substrates want of jobs

-- a material is of the carrier of this name
abbrev pub is_of_carrier : List ℕ → Material → Bool
is_of_carrier name m = bytes_eq m.carrier name

-- a process job names the carrier
abbrev pub names_carrier : List ℕ → ProcessJob → Bool
names_carrier name j = list_any (is_of_carrier name) j.material

-- a process job that is kept does
abbrev pub is_any_of_carrier : List ℕ → Jobs → Bool
is_any_of_carrier name w = list_any (names_carrier name) w.process.kept

-- what is answered of an action on a carrier: a carrier that a kept process job names isn't cancelled where its slot map is VERIFIED (this
-- tool's profile, S3F17)
abbrev pub carrier_code : CarrierAction → ToolFloor → Caack
carrier_code a f = carrier_caack f.shop.carriers (map view_of f.shop.ports) a (is_any_of_carrier a.id f.jobs)

-- the process job that a substrate is a member of
abbrev pub job_of : Substrate → Jobs → Option ProcessJob
job_of s w = job_numbered s.job w.process.kept

abbrev pub is_processing : JobState → Bool
is_processing Processing = true
is_processing _ = false

abbrev pub is_stopping : JobState → Bool
is_stopping Stopping = true
is_stopping _ = false

abbrev pub is_aborting : JobState → Bool
is_aborting Aborting = true
is_aborting _ = false

-- there is a process job, in such a state
abbrev pub is_job_so : (JobState → Bool) → Option ProcessJob → Bool
is_job_so test None = false
is_job_so test (Some j) = test j.states.state

-- a process job is STOPPING or ABORTING
abbrev pub is_ending : ProcessJob → Bool
is_ending j = is_stopping j.states.state || is_aborting j.states.state

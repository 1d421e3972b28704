-- What holds of the floor of the tool at every moment (after SEMI E40, SEMI E87 and SEMI E90; this tool's profile, carriers, substrates,
-- moves and process jobs): each substrate that is kept is of a carrier that is present; what has a place is kept; a process job names the
-- carriers of its members; a carrier at a port that is READY TO UNLOAD has finished; and by numbers the floor is as the laws of the moves
-- have it.
use Rattle.std.specs.Prelude.{◌≡◌, ◌≤◌, ◌+◌, Bool, true, false, List, length, Some}
use Rattle.std.specs.List.{AllByRecursion}
use Rattle.carrier.specs.declared.carrier.Carrier.{Carrier}
use Rattle.carrier.specs.Carriers.{carrier_numbered}
use Rattle.shop_floor.specs.Valid.{IsFloor}
use Rattle.substrate.specs.Places.{ArePlaces}
use Rattle.substrate.specs.declared.registered.Registered.{Registered}
use Rattle.process_job.specs.Jobs.{AreNumbered}
use Rattle.process_job.specs.declared.job.ProcessJob.{ProcessJob}
use Rattle.process_job.specs.declared.record.JobState.{JobState}
use Rattle.process_job.specs.declared.record.JobState.TheVariants.{Queued}
use Rattle.tool_jobs.specs.Jobs.{Jobs}
use Rattle.floor_model.specs.declared.tracked.Substrate.{Substrate}
use Rattle.floor_model.specs.Floor.{ToolFloor, substrate_numbered}
use Rattle.floor_model.specs.Floor.{RiseTo}
use Rattle.floor_model.specs.Jobs.{job_of, names_carrier}
use Rattle.floor_moves.specs.Valid.{Valid}
use Rattle.place_laws.specs.Picture.{picture}
use Rattle.place_laws.specs.Ports.{AtPorts, Unloading}
use Rattle.place_laws.specs.Standing.{IsCarried, AreApart, AreRegistered}

-- ---- places

-- a place is that of a substrate that is kept: of its number, under its name
abbrev pub IsOfKept : List Substrate → Registered → Type 0
IsOfKept ss r = (s : Substrate) × (substrate_numbered r.number ss ≡ Some s) × (s.sub ≡ r.sub)

-- ---- jobs

-- a process job is QUEUED
abbrev pub is_queued : JobState → Bool
is_queued Queued = true
is_queued _ = false

-- the process job of a substrate isn't QUEUED, and names its carrier
pub record IsOfJob (cs : List Carrier) (s : Substrate) (j : ProcessJob) : Type 0 where
  pub begun : is_queued j.states.state ≡ false
  pub carrier : Carrier
  pub its : carrier_numbered s.carrier cs ≡ Some carrier
  pub named : names_carrier carrier.name j ≡ true

-- so it is, where the substrate is in one
abbrev pub IsInItsJob : List Carrier → Jobs → Substrate → Type 0
IsInItsJob cs w s = (j : ProcessJob) → job_of s w ≡ Some j → IsOfJob cs s j

-- the numbers of process jobs rise; a substrate has the number of no job that was not created yet, and is in a job of its carrier
pub record JobsSound (f : ToolFloor) : Type 0 where
  pub numbered : AreNumbered 0 f.jobs.process.given f.jobs.process.kept
  pub given : AllByRecursion (λ (s : Substrate). s.job ≤ f.jobs.process.given) f.substrates
  pub members : AllByRecursion (IsInItsJob f.shop.carriers f.jobs) f.substrates

-- ---- all of it

-- what holds besides what is said of ports, and of the floor by numbers
pub record Base (f : ToolFloor) : Type 0 where
  pub shop : IsFloor f.shop
  pub carried : AllByRecursion (IsCarried f.shop.carriers) f.substrates
  pub registered : AllByRecursion (AreRegistered f.substrates) f.shop.carriers
  pub apart : AreApart f.substrates
  pub rising : RiseTo 0 f.places.given f.substrates
  pub same_ports : f.places.ports ≡ length f.shop.ports
  pub modules : length f.modules ≤ 2 + f.places.chambers
  pub places : ArePlaces f.places
  pub held : AllByRecursion (IsOfKept f.substrates) f.places.held
  pub jobs : JobsSound f

-- what holds at every moment
pub record Sound (f : ToolFloor) : Type 0 where
  pub base : Base f
  pub ports : AtPorts f.shop
  pub unloading : Unloading f.shop
  pub valid : Valid (picture f)

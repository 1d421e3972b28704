-- The planner tells nothing to do where all rest.
use Rattle.std.proofs.Common.{◌≡◌, ℕ, Bool, true, false, ◌||◌, if◌then◌else◌, List, [], ◌∷◌, ◌++◌, Option, Some, None, refl}
use Rattle.std.specs.List.{list_any}
use Rattle.substrate.specs.Locations.{is_work_place}
use Rattle.substrate.specs.Places.{is_any_at_work}
use Rattle.substrate.specs.declared.registered.Registered.{Registered}
use Rattle.robot_moves.specs.Best.{AllRest}
use Rattle.robot_moves.proofs.Giving.{nothing_moves}
use Rattle.floor_model.specs.declared.tracked.Substrate.{Substrate}
use Rattle.floor_model.specs.Floor.{ToolFloor, substrate_numbered}
use Rattle.process_job.specs.Jobs.{has_number, job_numbered}
use Rattle.process_job.specs.declared.job.ProcessJob.{ProcessJob}
use Rattle.tool_jobs.specs.Jobs.{Jobs}
use Rattle.floor_model.specs.Jobs.{is_job_so, is_processing}
use Rattle.floor_model.specs.Views.{view_in, views_of, views, planned}

or_both : (a b : Bool) → (a || b) ≡ false → (a ≡ false) × (b ≡ false)
or_both true b e = absurd (cc)
or_both false b e = (refl, e)

-- no process job of these is PROCESSING
abbrev pub none_processes : List ProcessJob → Bool
none_processes js = list_any (λ j. is_processing j.states.state) js

found_not : (n : ℕ) (js : List ProcessJob) → none_processes js ≡ false → is_job_so is_processing (job_numbered n js) ≡ false
found_not n [] none = refl
found_not n (j ∷ js) none =
    let parts = or_both (is_processing j.states.state) (none_processes js) none in
    of (has_number n j) parts.0 (found_not n js parts.1)
  where
    of : (b : Bool) → is_processing j.states.state ≡ false → is_job_so is_processing (job_numbered n js) ≡ false → is_job_so is_processing (if b then Some j else job_numbered n js) ≡ false
    of true here later = here
    of false here later = later

all_rest : (w : Jobs) (ss : List Substrate) (rs : List Registered) → none_processes w.process.kept ≡ false → list_any (λ r. is_work_place r.at) rs ≡ false → AllRest (views_of w ss rs)
all_rest w ss [] idle none = tt
all_rest w ss (r ∷ rs) idle none =
    let parts = or_both (is_work_place r.at) (list_any (λ (x : Registered). is_work_place x.at) rs) none in
    of (substrate_numbered r.number ss) (all_rest w ss rs idle parts.1)
  where
    of : (o : Option Substrate) → AllRest (views_of w ss rs) → AllRest (view_in r o w ++ views_of w ss rs)
    of None later = later
    of (Some s) later =
        let parts = or_both (is_work_place r.at) (list_any (λ (x : Registered). is_work_place x.at) rs) none in
        ((parts.0, found_not s.job w.process.kept idle), later)

-- where none is at work and no process job is PROCESSING, no module has anything to do
pub none_planned : (f : ToolFloor) → is_any_at_work f.places ≡ false → none_processes f.jobs.process.kept ≡ false → (number : ℕ) → planned number f ≡ None
none_planned f none idle number = nothing_moves number (views f) f.modules (all_rest f.jobs f.substrates f.places.held idle none)

-- What the planner is told of the substrates (this tool's profile, moves).
use Rattle.std.specs.Prelude.{ℕ, ◌+◌, nat_lt, Bool, false, not, ◌&&◌, List, [], ◌∷◌, ◌++◌, length, Option, Some, None}
use Rattle.substrate.specs.Places.{PlaceMap, is_any_at_work}
use Rattle.substrate.specs.Record.{is_finished, is_in_process}
use Rattle.substrate.specs.declared.registered.Registered.{Registered}
use Rattle.robot_moves.specs.Moves.{module_move}
use Rattle.robot_moves.specs.declared.view.PlaceView.{PlaceView}
use Rattle.robot_moves.specs.declared.view.Move.{Move}
use Rattle.tool_tasks.specs.Routes.{step_at}
use Rattle.tool_tasks.specs.declared.recipes.Recipe.{Recipe}
use Rattle.process_job.specs.Jobs.{recipe_named}
use Rattle.process_job.specs.declared.job.ProcessJob.{ProcessJob}
use Rattle.tool_jobs.specs.Jobs.{Jobs}
use Rattle.floor_model.specs.declared.tracked.Substrate.{Substrate}
use Rattle.floor_model.specs.Jobs.{job_of, is_job_so, is_processing, is_aborting}
use Rattle.floor_model.specs.Floor.{ToolFloor, substrate_numbered}

-- the route of a recipe, with no step where there is no such recipe
abbrev pub route_of : Option Recipe → List ℕ
route_of None = []
route_of (Some r) = r.route

-- the name of the recipe of a process job, empty where there is none
abbrev pub recipe_of : Option ProcessJob → List ℕ
recipe_of None = []
recipe_of (Some j) = j.recipe

-- the route of a substrate: that of the recipe of its process job
abbrev pub route_for : Substrate → Jobs → List ℕ
route_for s w = route_of (recipe_named (recipe_of (job_of s w)) w.process.recipes)

-- The step that is done by a Process isn't the last of the substrate's route, and its process job isn't ABORTING: so it stays IN PROCESS,
-- and goes on to its next step.
abbrev pub goes_on : Option Substrate → ToolFloor → Bool
goes_on None f = false
goes_on (Some s) f = not (is_job_so is_aborting (job_of s f.jobs)) && nat_lt (s.steps + 1) (length (route_for s f.jobs))

-- A substrate and its place, with its process job where it is in one: it may leave its slot where that is PROCESSING, and goes by the
-- recipe of that to the chambers of the first step of its route that isn't done.
abbrev pub view_of : Registered → Substrate → Option ProcessJob → List Recipe → PlaceView
view_of r s job recipes = record {
  sub = r.sub;
  number = r.number;
  at = r.at;
  slot = s.slot;
  aligned = s.aligned;
  finished = is_finished s.states.processing;
  in_process = is_in_process s.states.processing;
  may_start = is_job_so is_processing job;
  chambers = step_at s.steps (route_of (recipe_named (recipe_of job) recipes));
  recipe = recipe_of job;
}

-- one that has a place, where it is of a carrier that is here
abbrev pub view_in : Registered → Option Substrate → Jobs → List PlaceView
view_in r None w = []
view_in r (Some s) w = view_of r s (job_of s w) w.process.recipes ∷ []

-- each of these that have a place, in the order of their registration
abbrev pub views_of : Jobs → List Substrate → List Registered → List PlaceView
views_of w substrates [] = []
views_of w substrates (r ∷ rs) = view_in r (substrate_numbered r.number substrates) w ++ views_of w substrates rs

abbrev pub views : ToolFloor → List PlaceView
views f = views_of f.jobs f.substrates f.places.held

-- what the module of a number is to do
abbrev pub planned : ℕ → ToolFloor → Option Move
planned number f = module_move number (views f) f.modules

-- What the tool has for its process jobs at every moment: its modules, and recipes whose steps its chambers can do (this tool's
-- profile, configuration, moves and process jobs).
use Rattle.std.specs.Prelude.{◌≡◌, ℕ, ◌+◌, true, List, length}
use Rattle.std.specs.List.{AllByRecursion}
use Rattle.tool_events.specs.Configs.{are_usable}
use Rattle.tool_tasks.specs.declared.recipes.Recipe.{Recipe}
use Rattle.process_job.specs.Creating.{is_recipe}
use Rattle.process_job.specs.declared.job.ProcessJob.{ProcessJob}
use Rattle.floor_model.specs.Floor.{ToolFloor}

-- the recipe of a process job is one of these
abbrev pub HasRecipe : List Recipe → ProcessJob → Type 0
HasRecipe recipes j = is_recipe j.recipe recipes ≡ true

-- the most chambers of a tool whose modules have numbers up to 255
abbrev pub most_chambers : ℕ
most_chambers = 253

-- The tool has the robot, the aligner and a module for each chamber; each step of its recipes has one of its chambers; and the recipe of
-- each process job that is kept is one of these.
pub record Equipped (f : ToolFloor) : Type 0 where
  pub modules : length f.modules ≡ 2 + f.places.chambers
  pub recipes : are_usable f.places.chambers f.jobs.process.recipes ≡ true
  pub jobs : AllByRecursion (HasRecipe f.jobs.process.recipes) f.jobs.process.kept

-- The routes of substrates in process jobs can be gone to their ends, where the tool has what its process jobs need.
use Rattle.std.proofs.Common.{◌≡◌, ◌≤◌, ℕ, nat_le, Bool, true, false, ◌&&◌, if◌then◌else◌, List, [], ◌∷◌, length, map, Option, Some, None, arith}
use Rattle.std.specs.List.{list_all}
use Rattle.std.specs.Str.{bytes_eq}
use Rattle.std.proofs.lemmas.Bool.{and_parts}
use Rattle.std.proofs.lemmas.Bool.Decides.{nat_tests}
use Rattle.std.proofs.lemmas.List.{length-map}
use Rattle.tool_tasks.specs.Chambers.{chamber_list}
use Rattle.tool_tasks.specs.Routes.{most_steps, rises}
use Rattle.tool_tasks.specs.declared.recipes.Recipe.{Recipe}
use Rattle.tool_events.specs.Configs.{has_one_of, is_usable, are_usable}
use Rattle.process_job.specs.Jobs.{recipe_named}
use Rattle.process_job.specs.declared.job.ProcessJob.{ProcessJob}
use Rattle.floor_model.specs.declared.tracked.Substrate.{Substrate}
use Rattle.floor_model.specs.Floor.{ToolFloor, substrate_numbered}
use Rattle.floor_model.specs.Jobs.{job_of}
use Rattle.place_laws.specs.Picture.{some_steps, steps_in, of_one, of_job}
use Rattle.work_laws.specs.Equipped.{Equipped}
use Rattle.work_laws.proofs.Chambers.{have_chambers}
use Rattle.lot_laws.specs.Lot.{HaveRoutes}

-- a route of six steps at the most has as few with their chambers
few_listed : (route : List ℕ) → length route ≤ 6 → length (some_steps (map chamber_list route)) ≤ 6
few_listed [] few = omega arith
few_listed (step ∷ steps) few = let same = length-map steps chamber_list in omega (arith, few, same)

-- each recipe that is usable has so few, and one that is none counts as one
each_few : (count : ℕ) (name : List ℕ) (rs : List Recipe) → are_usable count rs ≡ true → length (steps_in (recipe_named name rs)) ≤ 6
each_few count name [] usable = omega arith
each_few count name (r ∷ rs) usable = of (bytes_eq r.name name) (each_few count name rs parts.1) where
  parts : (is_usable count r ≡ true) × (are_usable count rs ≡ true)
  parts = and_parts (is_usable count r) (are_usable count rs) usable

  its : length r.route ≤ 6
  its =
      let some = and_parts (nat_le 1 (length r.route)) (nat_le (length r.route) most_steps && (rises r.route && list_all (has_one_of count) r.route)) parts.0 in
      let few = (and_parts (nat_le (length r.route) most_steps) (rises r.route && list_all (has_one_of count) r.route) some.1).0 in
      grind (arith, nat_tests, few)

  of : (b : Bool) → length (steps_in (recipe_named name rs)) ≤ 6 → length (steps_in (if b then Some r else recipe_named name rs)) ≤ 6
  of true later = few_listed r.route its
  of false later = later

pub have_routes : (f : ToolFloor) → Equipped f → HaveRoutes f
have_routes f e = record { chambers = have_chambers f e; few = λ n member. of (substrate_numbered n f.substrates) } where
  by : (o : Option ProcessJob) → length (of_one [] (λ (j : ProcessJob). steps_in (recipe_named j.recipe f.jobs.process.recipes)) o) ≤ 6
  by None = omega arith
  by (Some j) = each_few f.places.chambers j.recipe f.jobs.process.recipes e.recipes

  of : (o : Option Substrate) → length (of_one [] (of_job [] (λ (j : ProcessJob). steps_in (recipe_named j.recipe f.jobs.process.recipes)) f.jobs) o) ≤ 6
  of None = omega arith
  of (Some s) = by (job_of s f.jobs)

use Rattle.std.proofs.Common.{◌≡◌, drop}
use Rattle.process_job.specs.Creating.{is_recipe}
use Rattle.process_job.proofs.jobs.is_recipe.Given as goal

abbrev pub invariant-loop-recipe : goal.invariant-loop-recipe
invariant-loop-recipe l = is_recipe l.name (drop l.recipe-index l.recipes) ≡ is_recipe l.name l.recipes

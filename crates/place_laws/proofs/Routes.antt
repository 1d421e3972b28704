-- The routes of substrates by numbers are those of the recipes of their process jobs, and the steps that are done are counted along them.
use Rattle.std.proofs.Common.{◌≡◌, ◌≤◌, ◌<◌, ℕ, zero, suc, ◌+◌, nat_le, nat_lt, true, false, ◌&&◌, List, [], ◌∷◌, map, length, Option, Some, None, refl, sym, ◌∙◌, ap, arith}
use Rattle.std.proofs.lemmas.List.{length-map}
use Rattle.std.proofs.lemmas.Bool.{true≢false}
use Rattle.std.proofs.lemmas.Bool.Decides.{nat_tests}
use Rattle.gem_tables.specs.Table.{is_one_of}
use Rattle.tool_tasks.specs.declared.recipes.Recipe.{Recipe}
use Rattle.tool_tasks.specs.Chambers.{has_chamber, chamber_list}
use Rattle.tool_tasks.specs.Routes.{step_at}
use Rattle.process_job.specs.Jobs.{recipe_named}
use Rattle.process_job.specs.declared.job.ProcessJob.{ProcessJob}
use Rattle.floor_model.specs.declared.tracked.Substrate.{Substrate}
use Rattle.floor_model.specs.Floor.{ToolFloor, substrate_numbered}
use Rattle.floor_model.specs.Jobs.{job_of}
use Rattle.floor_model.specs.Views.{route_of, recipe_of, route_for}
use Rattle.floor_moves.specs.Floor as law
use Rattle.floor_moves.specs.Floor.{next_step}
use Rattle.place_laws.specs.Picture.{picture, some_steps, steps_in, of_one, of_job}
use Rattle.place_laws.proofs.ChamberLists.{listed}

-- ---- the steps of a recipe

-- a step of some sets is the list of a set
step_listed : (k : ℕ) (sets : List ℕ) → law.step_at k (map chamber_list sets) ≡ chamber_list (step_at k sets)
step_listed k [] = refl
step_listed zero (set ∷ sets) = refl
step_listed (suc k) (set ∷ sets) = step_listed k sets

-- so is one of a route, which has a step
step_of : (k : ℕ) (sets : List ℕ) → law.step_at k (some_steps (map chamber_list sets)) ≡ chamber_list (step_at k sets)
step_of zero [] = refl
step_of (suc k) [] = refl
step_of k (set ∷ sets) = step_listed k (set ∷ sets)

step_same : (k : ℕ) (o : Option Recipe) → law.step_at k (steps_in o) ≡ chamber_list (step_at k (route_of o))
step_same k o = step_of k (route_of o)

-- a route has a step
some_first : (steps : List (List ℕ)) → 0 < length (some_steps steps)
some_first [] = omega arith
some_first (step ∷ steps) = omega arith

pub some_left : (o : Option Recipe) → 0 < length (steps_in o)
some_left o = some_first (map chamber_list (route_of o))

-- it has as many as the recipe, where that has one
length_of : (sets : List ℕ) → 0 < length sets → length (some_steps (map chamber_list sets)) ≡ length sets
length_of [] some = absurd (omega (arith, some))
length_of (set ∷ sets) some = ap suc (length-map sets chamber_list)

-- a second or a later one is there where the recipe has it
more_of : (k : ℕ) (sets : List ℕ) → nat_lt (k + 1) (length (some_steps (map chamber_list sets))) ≡ nat_lt (k + 1) (length sets)
more_of k [] = grind (arith, nat_tests)
more_of k (set ∷ sets) = ap (λ (i : ℕ). nat_lt (k + 1) i) (length_of (set ∷ sets) (omega arith))

more_same : (k : ℕ) (o : Option Recipe) → nat_lt (k + 1) (length (steps_in o)) ≡ nat_lt (k + 1) (length (route_of o))
more_same k o = more_of k (route_of o)

-- ---- the route of a substrate

module _ (f : ToolFloor) (n : ℕ) (s : Substrate) (found : substrate_numbered n f.substrates ≡ Some s) where
  -- how many steps are done
  pub steps_is : (picture f).steps_of n ≡ s.steps
  steps_is = ap (of_one 0 (λ (x : Substrate). x.steps)) found

  -- one that is in a job has it
  pub its_job : (picture f).jobs.is_member n ≡ true → (j : ProcessJob) × (job_of s f.jobs ≡ Some j)
  its_job member = of (job_of s f.jobs) refl (sym (ap (of_one false (of_job false (λ j. true) f.jobs)) found) ∙ member) where
    of : (o : Option ProcessJob) → job_of s f.jobs ≡ o → of_one false (λ (j : ProcessJob). true) o ≡ true → (j : ProcessJob) × (job_of s f.jobs ≡ Some j)
    of None q e = absurd (true≢false (sym e))
    of (Some j) q e = (j, q)

  module _ (j : ProcessJob) (its : job_of s f.jobs ≡ Some j) where
    -- the recipe of its job
    abbrev recipe : Option Recipe
    recipe = recipe_named j.recipe f.jobs.process.recipes

    -- its route is that of this
    pub route_is : (picture f).jobs.route_of n ≡ steps_in recipe
    route_is =
        ap (of_one [] (of_job [] (λ (x : ProcessJob). steps_in (recipe_named x.recipe f.jobs.process.recipes)) f.jobs)) found
        ∙ ap (of_one [] (λ (x : ProcessJob). steps_in (recipe_named x.recipe f.jobs.process.recipes))) its

    route_there : route_for s f.jobs ≡ route_of recipe
    route_there = ap (λ (o : Option ProcessJob). route_of (recipe_named (recipe_of o) f.jobs.process.recipes)) its

    -- its next step
    next_is : next_step n (picture f) ≡ chamber_list (step_at s.steps (route_for s f.jobs))
    next_is =
        ap (λ (i : ℕ). law.step_at i ((picture f).jobs.route_of n)) steps_is
        ∙ ap (law.step_at s.steps) route_is
        ∙ step_same s.steps recipe
        ∙ ap (λ (sets : List ℕ). chamber_list (step_at s.steps sets)) (sym route_there)

    -- a chamber is in its next step
    pub listed_next : (c : ℕ) → is_one_of (next_step n (picture f)) c ≡ ((nat_le 1 c && nat_le c 8) && has_chamber (step_at s.steps (route_for s f.jobs)) c)
    listed_next c = ap (λ (step : List ℕ). is_one_of step c) next_is ∙ listed (step_at s.steps (route_for s f.jobs)) c

    -- a further step is there by numbers where it is there
    further : nat_lt ((picture f).steps_of n + 1) (length ((picture f).jobs.route_of n)) ≡ nat_lt (s.steps + 1) (length (route_for s f.jobs))
    further =
        ap (λ (i : ℕ). nat_lt (i + 1) (length ((picture f).jobs.route_of n))) steps_is
        ∙ ap (λ (steps : List (List ℕ)). nat_lt (s.steps + 1) (length steps)) route_is
        ∙ more_same s.steps recipe
        ∙ ap (λ (sets : List ℕ). nat_lt (s.steps + 1) (length sets)) (sym route_there)

    pub more_is : nat_lt (s.steps + 1) (length (route_for s f.jobs)) ≡ true → (picture f).steps_of n + 1 < length ((picture f).jobs.route_of n)
    more_is e = below ((picture f).steps_of n + 1) (length ((picture f).jobs.route_of n)) (further ∙ e) where
      below : (a b : ℕ) → nat_lt a b ≡ true → a < b
      below a b e = grind (arith, nat_tests, e)

    pub last_is : nat_lt (s.steps + 1) (length (route_for s f.jobs)) ≡ false → length ((picture f).jobs.route_of n) ≤ (picture f).steps_of n + 1
    last_is e = past ((picture f).steps_of n + 1) (length ((picture f).jobs.route_of n)) (further ∙ e) where
      past : (a b : ℕ) → nat_lt a b ≡ false → b ≤ a
      past a b e = grind (arith, nat_tests, e)

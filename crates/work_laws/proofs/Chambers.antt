-- Each step of the route of each substrate in a process job has a chamber of the tool, and the steps rise.
use Rattle.std.proofs.Common.{◌≡◌, ◌≤◌, ◌<◌, ◌==◌, ℕ, zero, suc, ◌+◌, nat_le, nat_lt, Bool, true, false, ◌&&◌, ◌||◌, if◌then◌else◌, List, [], ◌∷◌, ◌++◌, length, map, Option, Some, None, refl, subst, arith}
use Rattle.std.specs.List.{list_any, list_all}
use Rattle.std.specs.Str.{bytes_eq}
use Rattle.std.proofs.lemmas.Bool.{and_parts, or_left, or_right}
use Rattle.std.proofs.lemmas.Bool.Decides.{Decides-eqb, nat_tests}
use Rattle.gem_tables.specs.Table.{is_one_of}
use Rattle.tool_tasks.specs.Chambers.{chamber_list}
use Rattle.tool_tasks.specs.Routes.{most_steps, is_before, rises}
use Rattle.tool_tasks.specs.declared.recipes.Recipe.{Recipe}
use Rattle.process_job.specs.Creating.{is_recipe}
use Rattle.process_job.specs.Jobs.{has_number, recipe_named}
use Rattle.process_job.specs.declared.job.ProcessJob.{ProcessJob}
use Rattle.floor_model.specs.declared.tracked.Substrate.{Substrate}
use Rattle.floor_model.specs.Floor.{ToolFloor, substrate_numbered}
use Rattle.floor_model.specs.Jobs.{job_of}
use Rattle.floor_moves.specs.Floor as law
use Rattle.floor_moves.specs.Valid.{HaveChambers}
use Rattle.place_laws.specs.Picture.{picture, numbers_from, some_steps, steps_in, of_one, of_job}
use Rattle.place_laws.proofs.ChamberLists.{is_chosen}
use Rattle.floor_laws.proofs.IssueTargets.{among_numbers}
use Rattle.tool_events.specs.Configs.{has_one_of, is_usable, are_usable}
use Rattle.work_laws.specs.Equipped.{HasRecipe, Equipped}
use Rattle.place_laws.proofs.Names.{each_found}

-- one of these chambers is one of a tool with so many
abbrev Reaches : ℕ → List ℕ → Type 0
Reaches count cs = (c : ℕ) × (is_one_of cs c ≡ true) × (is_one_of (numbers_from 1 count) c ≡ true)

-- some number of a list is so, where any is
any_one : (test : ℕ → Bool) (ns : List ℕ) → list_any test ns ≡ true → (n : ℕ) × (is_one_of ns n ≡ true) × (test n ≡ true)
any_one test [] e = absurd (cc)
any_one test (n ∷ ns) e = of (test n) refl e (any_one test ns) where
  of : (b : Bool) → test n ≡ b → (b || list_any test ns) ≡ true → (list_any test ns ≡ true → (m : ℕ) × (is_one_of ns m ≡ true) × (test m ≡ true)) → (m : ℕ) × (is_one_of (n ∷ ns) m ≡ true) × (test m ≡ true)
  of true q e rest = (n, or_left (n == n) (is_one_of ns n) (grind (arith, nat_tests)), q)
  of false q e rest = let w = rest e in (w.0, or_right (n == w.0) (is_one_of ns w.0) w.1, w.2)

-- a step with a chamber of the tool reaches one
step_reaches : (count set : ℕ) → has_one_of count set ≡ true → Reaches count (chamber_list set)
step_reaches count set e =
    let w = any_one (λ c. nat_le c count) (chamber_list set) e in
    let few = w.2 in
    let most : w.0 ≤ count = grind (arith, nat_tests, few) in
    let chosen = is_chosen set w.0 w.1 in
    (w.0, w.1, among_numbers 1 count w.0 chosen.least (omega (arith, most)))

-- what all of a list pass, one of it passes
each_is : (test : ℕ → Bool) (ns : List ℕ) (n : ℕ) → list_all test ns ≡ true → is_one_of ns n ≡ true → test n ≡ true
each_is test [] n all e = absurd (cc)
each_is test (m ∷ ms) n all e = let both = and_parts (test m) (list_all test ms) all in of (m == n) refl both.0 e (each_is test ms n both.1) where
  of : (b : Bool) → (m == n) ≡ b → test m ≡ true → (b || is_one_of ms n) ≡ true → (is_one_of ms n ≡ true → test n ≡ true) → test n ≡ true
  of true q here e rest = subst (λ (k : ℕ). test k ≡ true) ((Decides-eqb m n).0 q) here
  of false q here e rest = rest e

-- ---- routes

-- a route for a tool with so many chambers: each of its steps reaches one, and they rise
record IsGood (count : ℕ) (steps : List (List ℕ)) : Type 0 where
  reach : (i : ℕ) → i < length steps → Reaches count (law.step_at i steps)
  rise : (i j c d : ℕ) → i < j → is_one_of (law.step_at i steps) c ≡ true → is_one_of (law.step_at j steps) d ≡ true → c < d

-- the chambers of a step are below those of a later one
is_below : (step next c d : ℕ) → is_before step next ≡ true → is_one_of (chamber_list step) c ≡ true → is_one_of (chamber_list next) d ≡ true → c < d
is_below step next c d before here there =
    let first = each_is (λ e. list_all (nat_lt e) (chamber_list next)) (chamber_list step) c before here in
    let less = each_is (nat_lt c) (chamber_list next) d first there in
    grind (arith, nat_tests, less)

module _ (count : ℕ) where
  -- each of these has a chamber of the tool
  abbrev HaveOne : List ℕ → Type 0
  HaveOne steps = list_all (has_one_of count) steps ≡ true

  reaches_each : (steps : List ℕ) (i : ℕ) → HaveOne steps → i < length (map chamber_list steps) → Reaches count (law.step_at i (map chamber_list steps))
  reaches_each [] i each less = absurd (omega (arith, less))
  reaches_each (step ∷ steps) zero each less = step_reaches count step (and_parts (has_one_of count step) (list_all (has_one_of count) steps) each).0
  reaches_each (step ∷ steps) (suc i) each less = reaches_each steps i (and_parts (has_one_of count step) (list_all (has_one_of count) steps) each).1 (omega (arith, less))

  -- the chambers of a first step are below those of each that follows, since each step between them has a chamber
  first_below : (step : ℕ) (steps : List ℕ) (k c d : ℕ) → rises (step ∷ steps) ≡ true → HaveOne steps → is_one_of (chamber_list step) c ≡ true → is_one_of (law.step_at k (map chamber_list steps)) d ≡ true → c < d
  first_below step [] k c d rise each here there = absurd (cc)
  first_below step (next ∷ steps) zero c d rise each here there = is_below step next c d (and_parts (is_before step next) (rises (next ∷ steps)) rise).0 here there
  first_below step (next ∷ steps) (suc k) c d rise each here there =
      let both = and_parts (is_before step next) (rises (next ∷ steps)) rise in
      let has = and_parts (has_one_of count next) (list_all (has_one_of count) steps) each in
      let between = step_reaches count next has.0 in
      let less = is_below step next c between.0 both.0 here between.1 in
      let more = first_below next steps k between.0 d both.1 has.1 between.1 there in
      omega (arith, less, more)

  -- behind the first step a route rises
  later_rises : (step : ℕ) (steps : List ℕ) → rises (step ∷ steps) ≡ true → rises steps ≡ true
  later_rises step [] e = refl
  later_rises step (next ∷ steps) e = (and_parts (is_before step next) (rises (next ∷ steps)) e).1

  rises_each : (steps : List ℕ) (i j c d : ℕ) → rises steps ≡ true → HaveOne steps → i < j → is_one_of (law.step_at i (map chamber_list steps)) c ≡ true → is_one_of (law.step_at j (map chamber_list steps)) d ≡ true → c < d
  rises_each [] i j c d rise each less here there = absurd (cc)
  rises_each (step ∷ steps) zero zero c d rise each less here there = absurd (omega (arith, less))
  rises_each (step ∷ steps) (suc i) zero c d rise each less here there = absurd (omega (arith, less))
  rises_each (step ∷ steps) zero (suc j) c d rise each less here there = first_below step steps j c d rise (and_parts (has_one_of count step) (list_all (has_one_of count) steps) each).1 here there
  rises_each (step ∷ steps) (suc i) (suc j) c d rise each less here there =
      rises_each steps i j c d (later_rises step steps rise) (and_parts (has_one_of count step) (list_all (has_one_of count) steps) each).1 (omega (arith, less)) here there

  -- a route that has steps, each with a chamber of the tool, and that rises
  steps_good : (route : List ℕ) → nat_le 1 (length route) ≡ true → rises route ≡ true → HaveOne route → IsGood count (some_steps (map chamber_list route))
  steps_good [] some rise each = absurd (cc)
  steps_good (step ∷ steps) some rise each = record {
    reach = λ i less. reaches_each (step ∷ steps) i each less;
    rise = λ i j c d less here there. rises_each (step ∷ steps) i j c d rise each less here there;
  }

-- ---- recipes

-- that of a usable recipe is one
usable_good : (count : ℕ) (r : Recipe) → is_usable count r ≡ true → IsGood count (steps_in (Some r))
usable_good count r e =
    let some = and_parts (nat_le 1 (length r.route)) (nat_le (length r.route) most_steps && (rises r.route && list_all (has_one_of count) r.route)) e in
    let few = and_parts (nat_le (length r.route) most_steps) (rises r.route && list_all (has_one_of count) r.route) some.1 in
    let rise = and_parts (rises r.route) (list_all (has_one_of count) r.route) few.1 in
    steps_good count r.route some.0 rise.0 rise.1

-- one of its name is found among the recipes, and is usable
recipe_good : (count : ℕ) (name : List ℕ) (rs : List Recipe) → is_recipe name rs ≡ true → are_usable count rs ≡ true → IsGood count (steps_in (recipe_named name rs))
recipe_good count name [] known usable = absurd (cc)
recipe_good count name (r ∷ rs) known usable =
    let parts = and_parts (is_usable count r) (are_usable count rs) usable in
    of (bytes_eq r.name name) known (usable_good count r parts.0) (λ later. recipe_good count name rs later parts.1)
  where
    of : (b : Bool) → (b || is_recipe name rs) ≡ true → IsGood count (steps_in (Some r)) → (is_recipe name rs ≡ true → IsGood count (steps_in (recipe_named name rs))) → IsGood count (steps_in (if b then Some r else recipe_named name rs))
    of true e here rest = here
    of false e here rest = rest e

-- so is that of each substrate in a process job
pub have_chambers : (f : ToolFloor) → Equipped f → HaveChambers (picture f)
have_chambers f e = record {
  reach = λ n i member least most. (at n member).reach i most;
  rise = λ n i j c d member less here there. (at n member).rise i j c d less here there;
} where
  of_its : (s : Substrate) (o : Option ProcessJob) → job_of s f.jobs ≡ o → of_one false (λ (j : ProcessJob). true) o ≡ true → IsGood f.places.chambers (of_one [] (λ (j : ProcessJob). steps_in (recipe_named j.recipe f.jobs.process.recipes)) o)
  of_its s None q is = absurd (cc)
  of_its s (Some j) q is = recipe_good f.places.chambers j.recipe f.jobs.process.recipes (each_found (HasRecipe f.jobs.process.recipes) (has_number s.job) f.jobs.process.kept j e.jobs q) e.recipes

  of_found : (o : Option Substrate) → of_one false (of_job false (λ j. true) f.jobs) o ≡ true → IsGood f.places.chambers (of_one [] (of_job [] (λ j. steps_in (recipe_named j.recipe f.jobs.process.recipes)) f.jobs) o)
  of_found None is = absurd (cc)
  of_found (Some s) is = of_its s (job_of s f.jobs) refl is

  at : (n : ℕ) → (picture f).jobs.is_member n ≡ true → IsGood f.places.chambers ((picture f).jobs.route_of n)
  at n member = of_found (substrate_numbered n f.substrates) member

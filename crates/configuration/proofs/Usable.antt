-- The recipes that are taken have routes for the tool.
use Rattle.std.proofs.Common.{◌≡◌, ◌≤◌, ℕ, suc, nat_eq, nat_le, ◌==◌, Bool, true, false, ◌&&◌, ◌||◌, if◌then◌else◌, List, [], ◌∷◌, ◌++◌, codes, length, Option, Some, None, option_and_then, option_map, refl, sym, ap, subst, ◌∙◌, arith}
use Rattle.std.specs.List.{list_any, list_all}
use Rattle.std.proofs.lemmas.Bool.{and_parts, and_from, or_right}
use Rattle.std.proofs.lemmas.Bool.Decides.{nat_tests}
use Rattle.std.proofs.lemmas.List.Folds.{list_all-append}
use Rattle.std.proofs.lemmas.Nat.Bits.{bit_at_ones}
use Rattle.std.proofs.lemmas.Option.{option_and_then_some}
use Rattle.toml.specs.Data.{Data, Items, no_items, item, Members, as_table, get_member}
use Rattle.tool_events.specs.Configs.{has_one_of, is_usable, are_usable}
use Rattle.tool_tasks.specs.Chambers.{last_chamber, has_chamber, chamber_set, chambers_to}
use Rattle.tool_tasks.specs.Recipes.{most_recipes}
use Rattle.tool_tasks.specs.Routes.{most_steps, rises}
use Rattle.tool_tasks.specs.declared.recipes.Recipe.{Recipe}
use Rattle.tool_tasks.proofs.Sets.{set_has, any_listed}
use Rattle.configuration.specs.Values.{number_in, text_of, passing, has, numbers_behind, filled_list, has_other}
use Rattle.configuration.specs.Routes.{chambers_in, steps_in, is_route, route_in, route_key, route_of}
use Rattle.configuration.specs.Recipes.{recipe_keys, recipe_in, has_name, with_recipe, recipes_behind, recipes_of, recipe_for_all}
use Rattle.configuration.specs.Rules.{recipes, said_at, taken}
use Rattle.configuration.proofs.Taken.{option_map_some, unless_some, passing_same, passing_some, number_lies, filled_list_some}

-- ---- lists of numbers

-- what is in a list is in a longer one
any_front : (test : ℕ → Bool) (xs ys : List ℕ) → list_any test xs ≡ true → list_any test (xs ++ ys) ≡ true
any_front test [] ys e = absurd (cc)
any_front test (x ∷ xs) ys e = of (test x) e (any_front test xs ys) where
  of : (b : Bool) → (b || list_any test xs) ≡ true → (list_any test xs ≡ true → list_any test (xs ++ ys) ≡ true) → (b || list_any test (xs ++ ys)) ≡ true
  of true e rest = refl
  of false e rest = rest e

any_last : (n : ℕ) (xs : List ℕ) → has n (xs ++ n ∷ []) ≡ true
any_last n [] = let same : nat_eq n n ≡ true = grind (arith, nat_tests) in ap (λ (t : Bool). t || false) same
any_last n (x ∷ xs) = or_right (nat_eq n x) (has n (xs ++ n ∷ [])) (any_last n xs)

-- a number that was found is one of those that are taken
stays_in : (n least most : ℕ) (found : List ℕ) (ds : Items) (ns : List ℕ) → has n found ≡ true → numbers_behind least most found ds ≡ Some ns → has n ns ≡ true
stays_in n least most found no_items ns here e = let same : found ≡ ns = cc in ap (has n) (sym same) ∙ here
stays_in n least most found (item d ds) ns here e =
    option_and_then_some (λ k. if has k found then None else numbers_behind least most (found ++ k ∷ []) ds) (number_in least most d) ns e
    (λ k there later.
    stays_in n least most (found ++ k ∷ []) ds ns (any_front (nat_eq n) found (k ∷ []) here)
    (unless_some (has k found) (numbers_behind least most (found ++ k ∷ []) ds) ns later))

-- ---- steps

-- the set of a list of chambers has one of the tool, its first
first_usable : (chambers : ℕ) (d : Data) (ds : Items) (ns : List ℕ) → chambers ≤ last_chamber → numbers_behind 1 chambers [] (item d ds) ≡ Some ns → has_one_of chambers (chamber_set ns) ≡ true
first_usable chambers d ds ns few e =
    option_and_then_some (λ k. if has k [] then None else numbers_behind 1 chambers ([] ++ k ∷ []) ds) (number_in 1 chambers d) ns e
    (λ n there later.
    let lies = number_lies 1 chambers n d there in
    let first = lies.first in
    let last = lies.last in
    let here = stays_in n 1 chambers (n ∷ []) ds ns (any_last n []) later in
    any_listed (λ c. nat_le c chambers) (chamber_set ns) n first (omega (arith, last, few)) (set_has ns 0 n (or_right (has_chamber 0 n) (has n ns) here)) (grind (arith, nat_tests, last)))

step_usable : (chambers : ℕ) (d : Data) (step : ℕ) → chambers ≤ last_chamber → chambers_in chambers d ≡ Some step → has_one_of chambers step ≡ true
step_usable chambers d step few e =
    option_map_some chamber_set (option_and_then (numbers_behind 1 chambers []) (filled_list d)) step e
    (λ ns some same.
    option_and_then_some (numbers_behind 1 chambers []) (filled_list d) ns some
    (λ ds there read.
    let list = filled_list_some d ds there in
    subst (λ (x : ℕ). has_one_of chambers x ≡ true) same
    (first_usable chambers list.first list.rest ns few (subst (λ (x : Items). numbers_behind 1 chambers [] x ≡ Some ns) (sym list.is) read))))

steps_usable : (chambers : ℕ) (ds : Items) (steps : List ℕ) → chambers ≤ last_chamber → steps_in chambers ds ≡ Some steps → list_all (has_one_of chambers) steps ≡ true
steps_usable chambers no_items steps few e = let same : [] ≡ steps = cc in ap (list_all (has_one_of chambers)) (sym same)
steps_usable chambers (item d ds) steps few e =
    option_and_then_some (λ step. option_map (λ rest. step ∷ rest) (steps_in chambers ds)) (chambers_in chambers d) steps e
    (λ step there later.
    option_map_some (λ rest. step ∷ rest) (steps_in chambers ds) steps later
    (λ rest read same.
    subst (λ (x : List ℕ). list_all (has_one_of chambers) x ≡ true) same
    (and_from (has_one_of chambers step) (list_all (has_one_of chambers) rest) (step_usable chambers d step few there) (steps_usable chambers ds rest few read))))

-- a list that isn't empty has a step
some_steps : (chambers : ℕ) (d : Data) (ds : Items) (steps : List ℕ) → steps_in chambers (item d ds) ≡ Some steps → nat_le 1 (length steps) ≡ true
some_steps chambers d ds steps e =
    option_and_then_some (λ step. option_map (λ rest. step ∷ rest) (steps_in chambers ds)) (chambers_in chambers d) steps e
    (λ step there later.
    option_map_some (λ rest. step ∷ rest) (steps_in chambers ds) steps later
    (λ rest read same. subst (λ (x : List ℕ). nat_le 1 (length x) ≡ true) same (at_least (length rest))))
  where
    at_least : (n : ℕ) → nat_le 1 (suc n) ≡ true
    at_least n = grind (arith, nat_tests)

-- ---- routes

-- the recipe of a name and a route
abbrev named : List ℕ → List ℕ → Recipe
named name route = record { name = name; route = route }

-- a route of one step with a chamber of the tool is one for it
one_step_usable : (chambers : ℕ) (name : List ℕ) (step : ℕ) → has_one_of chambers step ≡ true → is_usable chambers (named name (step ∷ [])) ≡ true
one_step_usable chambers name step e = and_from (has_one_of chambers step) true e refl

-- a list of steps that was taken is a route for the tool
route_in_usable : (chambers : ℕ) (name : List ℕ) (d : Data) (route : List ℕ) → chambers ≤ last_chamber → route_in chambers d ≡ Some route → is_usable chambers (named name route) ≡ true
route_in_usable chambers name d route few e =
    option_and_then_some (passing is_route) (option_and_then (steps_in chambers) (filled_list d)) route e
    (λ steps there passes.
    let same : steps ≡ route = passing_same is_route steps route passes in
    let is = and_parts (nat_le (length route) most_steps) (rises route) (passing_some is_route steps route passes) in
    option_and_then_some (steps_in chambers) (filled_list d) route (there ∙ ap (λ (x : List ℕ). Some x) same)
    (λ ds filled read.
    let list = filled_list_some d ds filled in
    let from_first = subst (λ (x : Items). steps_in chambers x ≡ Some route) (sym list.is) read in
    and_from (nat_le 1 (length route)) (nat_le (length route) most_steps && (rises route && list_all (has_one_of chambers) route)) (some_steps chambers list.first list.rest route from_first)
    (and_from (nat_le (length route) most_steps) (rises route && list_all (has_one_of chambers) route) is.0
    (and_from (rises route) (list_all (has_one_of chambers) route) is.1 (steps_usable chambers ds route few read)))))

-- the chambers of version 1 are a route of one step
chambers_one_step : (chambers : ℕ) (d : Data) (route : List ℕ) → option_map (λ step. step ∷ []) (chambers_in chambers d) ≡ Some route → (step : ℕ) × (chambers_in chambers d ≡ Some step) × (step ∷ [] ≡ route)
chambers_one_step chambers d route e = option_map_some (λ step. step ∷ []) (chambers_in chambers d) route e (λ step there same. (step, there, same))

route_usable : (version chambers : ℕ) (name : List ℕ) (d : Data) (route : List ℕ) → chambers ≤ last_chamber → route_of version chambers d ≡ Some route → is_usable chambers (named name route) ≡ true
route_usable version chambers name d route few e = of (version == 1) e where
  of : (first : Bool) → (if first then option_map (λ step. step ∷ []) (chambers_in chambers d) else route_in chambers d) ≡ Some route → is_usable chambers (named name route) ≡ true
  of true e =
      let one = chambers_one_step chambers d route e in
      subst (λ (x : List ℕ). is_usable chambers (named name x) ≡ true) one.2 (one_step_usable chambers name one.0 (step_usable chambers d one.0 few one.1))
  of false e = route_in_usable chambers name d route few e

-- ---- recipes

-- what is so of each route is so of a recipe
recipe_passes : (test : Recipe → Bool) (version chambers : ℕ) → ((name : List ℕ) (d : Data) (route : List ℕ) → route_of version chambers d ≡ Some route → test (named name route) ≡ true) → (ms : Members) (r : Recipe) → recipe_in version chambers ms ≡ Some r → test r ≡ true
recipe_passes test version chambers each ms r e =
    option_and_then_some (λ name. option_map (named name) (option_and_then (route_of version chambers) (get_member (route_key version) ms))) (option_and_then (text_of 64) (get_member (codes "name") ms)) r
    (unless_some (has_other (recipe_keys version) ms) _ r e)
    (λ name said routed.
    option_map_some (named name) (option_and_then (route_of version chambers) (get_member (route_key version) ms)) r routed
    (λ route there same.
    option_and_then_some (route_of version chambers) (get_member (route_key version) ms) route there
    (λ d at read. subst (λ (x : Recipe). test x ≡ true) same (each name d route read))))

-- and of each of those that are taken
all_pass : (test : Recipe → Bool) (version chambers : ℕ) → ((ms : Members) (r : Recipe) → recipe_in version chambers ms ≡ Some r → test r ≡ true) → (found : List Recipe) (ds : Items) (rs : List Recipe) → list_all test found ≡ true → recipes_behind version chambers found ds ≡ Some rs → list_all test rs ≡ true
all_pass test version chambers each found no_items rs before e = let same : found ≡ rs = cc in ap (list_all test) (sym same) ∙ before
all_pass test version chambers each found (item d ds) rs before e =
    option_and_then_some (λ more. recipes_behind version chambers more ds) (option_and_then (with_recipe found) (option_and_then (recipe_in version chambers) (as_table d))) rs e
    (λ more put later.
    option_and_then_some (with_recipe found) (option_and_then (recipe_in version chambers) (as_table d)) more put
    (λ r read fits.
    option_and_then_some (recipe_in version chambers) (as_table d) r read
    (λ ms table is.
    let same : Some (found ++ r ∷ []) ≡ Some more = unless_some (nat_le most_recipes (length found) || has_name r.name found) (Some (found ++ r ∷ [])) more fits in
    let whole : found ++ r ∷ [] ≡ more = cc in
    all_pass test version chambers each more ds rs
    (subst (λ (x : List Recipe). list_all test x ≡ true) whole (list_all-append test found (r ∷ []) ∙ and_from (list_all test found) (test r && true) before (and_from (test r) true (each ms r is) refl)))
    later)))

list_passes : (test : Recipe → Bool) (version chambers : ℕ) → ((ms : Members) (r : Recipe) → recipe_in version chambers ms ≡ Some r → test r ≡ true) → (d : Data) (rs : List Recipe) → recipes_of version chambers d ≡ Some rs → list_all test rs ≡ true
list_passes test version chambers each d rs e =
    option_and_then_some (recipes_behind version chambers []) (filled_list d) rs e
    (λ ds there read. all_pass test version chambers each [] ds rs refl read)

-- ---- the recipe for all chambers

-- it has chamber 1
pub default_usable : (chambers : ℕ) → 1 ≤ chambers → are_usable chambers (recipe_for_all chambers) ≡ true
default_usable chambers some =
    let has_first = any_listed (λ n. nat_le n chambers) (chambers_to chambers) 1 (omega arith) (omega arith) (grind (arith, bit_at_ones chambers 0 some)) (grind (arith, nat_tests, some)) in
    and_from (is_usable chambers (named (codes "R1") (chambers_to chambers ∷ []))) true (one_step_usable chambers (codes "R1") (chambers_to chambers) has_first) refl

-- ---- what is taken

-- what is so of those by default and of each that is read is so of those that are taken
taken_pass : (test : Recipe → Bool) (version chambers : ℕ) (default rs : List Recipe) (key : List ℕ) (ms : Members) → ((ms : Members) (r : Recipe) → recipe_in version chambers ms ≡ Some r → test r ≡ true) → list_all test default ≡ true → rs ≡ taken default (said_at (recipes version chambers) key ms) → list_all test rs ≡ true
taken_pass test version chambers default rs key ms each before e = ap (list_all test) e ∙ of_member (get_member key ms) where
  of_said : (o : Option (List Recipe)) → ((xs : List Recipe) → o ≡ Some xs → list_all test xs ≡ true) → list_all test (taken default (Some o)) ≡ true
  of_said None passes = before
  of_said (Some xs) passes = passes xs refl

  of_member : (o : Option Data) → list_all test (taken default (option_map (recipes_of version chambers) o)) ≡ true
  of_member None = before
  of_member (Some d) = of_said (recipes_of version chambers d) (λ xs q. list_passes test version chambers each d xs q)

-- the recipes that are taken have routes for the tool, where those by default have
pub taken_usable : (version chambers : ℕ) (default rs : List Recipe) (key : List ℕ) (ms : Members) → chambers ≤ last_chamber → are_usable chambers default ≡ true → rs ≡ taken default (said_at (recipes version chambers) key ms) → are_usable chambers rs ≡ true
taken_usable version chambers default rs key ms few usable e =
    taken_pass (is_usable chambers) version chambers default rs key ms (recipe_passes (is_usable chambers) version chambers (λ name d route q. route_usable version chambers name d route few q)) usable e

-- Routes step by step, and sets of chambers number by number.
use Rattle.std.proofs.Common.{◌≡◌, ◌≤◌, ◌<◌, ◌+◌, ◌-◌, ℕ, suc, nat_le, Bool, true, false, ◌&&◌, ◌||◌, not, cond, if◌then◌else◌, List, [], ◌∷◌, length, Option, Some, None, option_and_then, option_map, refl, sym, ap, ◌∙◌, arith}
use Rattle.std.specs.List.{list_all, filter, range_with_len}
use Rattle.std.proofs.lemmas.Bool.Decides.{nat_tests}
use Rattle.std.proofs.lemmas.Option.{option_and_then_some}
use Rattle.toml.specs.View.{view, items_view}
use Rattle.toml.specs.declared.value.Value.{Value}
use Rattle.tool_tasks.specs.Chambers.{last_chamber, has_chamber}
use Rattle.tool_tasks.specs.Routes.{most_steps, rises}
use Rattle.configuration.specs.Values.{passing}
use Rattle.configuration.specs.Routes.{chambers_in, steps_in, is_route}
use Rattle.configuration.proofs.Taken.{option_map_some}

-- ---- sets of chambers

-- a test of each chamber of a set from this one on
abbrev pub all_from : (ℕ → Bool) → ℕ → ℕ → Bool
all_from test set c = list_all test (filter (has_chamber set) (range_with_len c (last_chamber + 1 - c)))

-- looks at this one, where the set has it, and at those from the next on
pub all_on : (test : ℕ → Bool) (set c : ℕ) → c ≤ last_chamber → all_from test set c ≡ ((not (has_chamber set c) || test c) && all_from test set (c + 1))
all_on test set c last = ap (λ (n : ℕ). list_all test (filter (has_chamber set) (range_with_len c n))) count ∙ of (has_chamber set c) where
  count : last_chamber + 1 - c ≡ suc (last_chamber + 1 - (c + 1))
  count = omega arith

  rest : List ℕ
  rest = filter (has_chamber set) (range_with_len (c + 1) (last_chamber + 1 - (c + 1)))

  of : (b : Bool) → list_all test (cond b (c ∷ rest) rest) ≡ ((not b || test c) && list_all test rest)
  of true = refl
  of false = refl

-- a chamber that the set has and that fails ends it
pub all_fails : (test : ℕ → Bool) (set c : ℕ) → c ≤ last_chamber → has_chamber set c ≡ true → test c ≡ false → all_from test set c ≡ false
all_fails test set c last has fails = all_on test set c last ∙ ap (λ (b : Bool). (not b || test c) && all_from test set (c + 1)) has ∙ ap (λ (b : Bool). b && all_from test set (c + 1)) fails

-- one that the set lacks, or that passes, leaves it to those behind
pub all_lacks : (test : ℕ → Bool) (set c : ℕ) → c ≤ last_chamber → has_chamber set c ≡ false → all_from test set c ≡ all_from test set (c + 1)
all_lacks test set c last lacks = all_on test set c last ∙ ap (λ (b : Bool). (not b || test c) && all_from test set (c + 1)) lacks

pub all_passes : (test : ℕ → Bool) (set c : ℕ) → c ≤ last_chamber → has_chamber set c ≡ true → test c ≡ true → all_from test set c ≡ all_from test set (c + 1)
all_passes test set c last has passes = all_on test set c last ∙ ap (λ (b : Bool). (not b || test c) && all_from test set (c + 1)) has ∙ ap (λ (b : Bool). b && all_from test set (c + 1)) passes

-- ---- steps that rise

-- one step rises
pub one_rises : (route : List ℕ) → length route ≤ 1 → rises route ≡ true
one_rises [] few = refl
one_rises (step ∷ []) few = refl
one_rises (step ∷ next ∷ steps) few = absurd (omega arith)

-- ---- steps that are read

-- there are as many steps as values
steps_long : (chambers : ℕ) (values : List Value) (steps : List ℕ) → steps_in chambers (items_view values) ≡ Some steps → length steps ≡ length values
steps_long chambers [] steps e = let same : [] ≡ steps = cc in ap length (sym same)
steps_long chambers (v ∷ vs) steps e =
    option_and_then_some (λ step. option_map (λ rest. step ∷ rest) (steps_in chambers (items_view vs))) (chambers_in chambers (view v)) steps e
    (λ step there later.
    option_map_some (λ rest. step ∷ rest) (steps_in chambers (items_view vs)) steps later
    (λ rest read same. ap length (sym same) ∙ ap suc (steps_long chambers vs rest read)))

-- too many are no route
pub too_many : (chambers : ℕ) (values : List Value) → most_steps < length values → option_and_then (passing is_route) (steps_in chambers (items_view values)) ≡ None
too_many chambers values many = of (steps_in chambers (items_view values)) refl where
  of : (o : Option (List ℕ)) → steps_in chambers (items_view values) ≡ o → option_and_then (passing is_route) o ≡ None
  of None e = refl
  of (Some steps) e =
      let long = steps_long chambers values steps e in
      let over : nat_le (length steps) most_steps ≡ false = grind (arith, nat_tests, long, many) in
      ap (λ (b : Bool). if b && rises steps then Some steps else None) over

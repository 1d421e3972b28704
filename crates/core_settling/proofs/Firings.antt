-- Settling by automatic firings.
use Rattle.std.proofs.Common.{◌≡◌, ℕ, ◌+◌, ◌<◌, Bool, if◌then◌else◌, Option, Some, None, option_map, refl, sym, ◌∙◌, ap, arith}
use Rattle.gem_tables.specs.declared.firing.Firing.{Firing}
use Rattle.gem_model.specs.State.{State}
use Rattle.gem_model.specs.Machines.{least}
use Rattle.gem_model.specs.Measure.{left}
use Rattle.gem_model.specs.Settle.{settled, settling}
use Rattle.gem_model.specs.Sizes.{counted}
use Rattle.gem_model.proofs.Settling.{settled_none, settled_some, left_falls}
use Rattle.history_parts.specs.Additions.{completes, completions}
use Rattle.history_parts.proofs.Completions.{first_completes, none_completes}
use Rattle.core_state.specs.Firing.{fire_first}

-- ---- what is plain, stated of plain terms: a tactic beside the least row would compute it

some_none : (b : Bool) → Some b ≡ None → ⊥
some_none b e = absurd (cc)

none_some : (b : Bool) → None ≡ Some b → ⊥
none_some b e = absurd (cc)

same_some : (a b : Bool) → Some a ≡ Some b → a ≡ b
same_some a b e = cc

one_counted : (count one same rest all : ℕ) → one ≡ same → all ≡ same + rest → (count + one) + rest ≡ count + all
one_counted count one same rest all e f = omega (arith, e, f)

none_more : (count n : ℕ) → n ≡ 0 → count ≡ count + n
none_more count n e = omega (arith, e)

-- ---- settling

-- one firing more settles alike
pub fired_settles : (g : State) (f : Option Firing) → least g ≡ f → settled (fire_first f g) ≡ settled g
fired_settles g None is = refl
fired_settles g (Some f) is = sym (settled_some g f is)

pub fired_falls : (g : State) (f : Option Firing) (b : Bool) → least g ≡ f → Some b ≡ option_map completes f → left (fire_first f g) < left g
fired_falls g None b _ some = absurd (some_none b some)
fired_falls g (Some f) b is some = left_falls g f is

pub none_settled : (g : State) (f : Option Firing) → least g ≡ f → None ≡ option_map completes f → settled g ≡ fire_first f g
none_settled g None is none = settled_none g is
none_settled g (Some f) _ none = absurd (none_some (completes f) none)

-- ---- the completions

-- a count that stood still stands still
counted_again : (a b : ℕ) → counted (counted a + b) ≡ counted (a + b)
counted_again a b = omega arith

-- what was counted, and what is counted from now on
pub fired_counts : (g : State) (f : Option Firing) (b : Bool) (count new : ℕ) → least g ≡ f → Some b ≡ option_map completes f → new ≡ counted (count + (if b then 1 else 0)) → counted (new + completions (settling (fire_first f g))) ≡ counted (count + completions (settling g))
fired_counts g None b count new _ some _ = absurd (some_none b some)
fired_counts g (Some f) b count new is some more =
    let same : b ≡ completes f = same_some b (completes f) some in
    let one : (if b then 1 else 0) ≡ (if completes f then 1 else 0) = ap {B = ℕ} (λ (t : Bool). if t then 1 else 0) same in
    let first = first_completes g f is in
    ap (λ (n : ℕ). counted (n + completions (settling (fire_first (Some f) g)))) more
    ∙ counted_again (count + (if b then 1 else 0)) (completions (settling (fire_first (Some f) g)))
    ∙ ap counted (one_counted count (if b then 1 else 0) (if completes f then 1 else 0) (completions (settling (fire_first (Some f) g))) (completions (settling g)) one first)

-- where no row is ready all are counted
pub none_counts : (g : State) (f : Option Firing) (count total : ℕ) → least g ≡ f → None ≡ option_map completes f → count ≡ counted count → counted (count + completions (settling g)) ≡ counted total → count ≡ counted total
none_counts g None count total is none small all =
    small ∙ (ap counted (none_more count (completions (settling g)) (none_completes g is)) ∙ all)
none_counts g (Some f) count total _ none _ _ = absurd (none_some (completes f) none)

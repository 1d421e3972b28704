-- What a choice among cases gives.
use Rattle.std.proofs.Common.{◌≡◌, ◌⊎◌, Bool, true, false, List, [], ◌∷◌, Option, Some, None, cond, refl, inl, inr, subst}
use Rattle.std.specs.List.{AllByRecursion}
use Rattle.std.specs.Option.{option_or}
use Rattle.gem_tables.specs.Table.{choose}

-- of two choices the first that gives something gives it
pub or_cases : {A : Type 0} (first second : Option A) (x : A) → option_or first second ≡ Some x → (first ≡ Some x) ⊎ ((first ≡ None) × (second ≡ Some x))
or_cases None second x e = inr (refl, e)
or_cases (Some y) second x e = inl e

-- what is true of each case that fits is true of what is chosen
pub chosen_meets : {A : Type 0} (P : A → Type 0) (cases : List (Bool × A)) (x : A) → AllByRecursion (λ (one : Bool × A). one.0 ≡ true → P one.1) cases → choose cases ≡ Some x → P x
chosen_meets P [] x h e = absurd (cc)
chosen_meets P (one ∷ others) x h e = by_test one.0 refl e (chosen_meets P others x h.1) where
  by_test : (b : Bool) → one.0 ≡ b → cond b (Some one.1) (choose others) ≡ Some x → (choose others ≡ Some x → P x) → P x
  by_test true q f rest = let same : one.1 ≡ x = cc in subst (λ y. P y) same (h.0 q)
  by_test false q f rest = rest f

-- The modules that are left to fetch.
use Rattle.std.proofs.Common.{◌≡◌, ℕ, zero, suc, ◌+◌, ◌<◌, ◌≤◌, List, [], ◌∷◌, drop, length, refl, ◌∙◌, ap, add-one, arith}
use Rattle.robot_moves.specs.declared.module.Module.{Module}
use Rattle.floor_model.specs.Floor.{module_numbers}

next_suc : (first : ℕ) (ms : List Module) (i : ℕ) → i < length ms → drop i (module_numbers first ms) ≡ (i + first) ∷ drop (suc i) (module_numbers first ms)
next_suc first [] i within = absurd (omega (arith, within))
next_suc first (m ∷ ms) zero within = ap (λ (n : ℕ). n ∷ module_numbers (first + 1) ms) (omega arith)
next_suc first (m ∷ ms) (suc i) within =
    next_suc (first + 1) ms i (omega (arith, within))
    ∙ ap (λ (n : ℕ). n ∷ drop (suc i) (module_numbers (first + 1) ms)) (omega arith)

-- the numbers from a place on begin with the number of the module there
pub numbers_next : (first : ℕ) (ms : List Module) (i : ℕ) → i < length ms → drop i (module_numbers first ms) ≡ (i + first) ∷ drop (i + 1) (module_numbers first ms)
numbers_next first ms i within = next_suc first ms i within ∙ rw add-one refl

-- behind the last there is none
pub numbers_end : (first : ℕ) (ms : List Module) (i : ℕ) → length ms ≤ i → drop i (module_numbers first ms) ≡ []
numbers_end first [] zero past = refl
numbers_end first [] (suc i) past = refl
numbers_end first (m ∷ ms) zero past = absurd (omega (arith, past))
numbers_end first (m ∷ ms) (suc i) past = numbers_end (first + 1) ms i (omega (arith, past))

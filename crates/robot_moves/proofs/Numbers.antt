-- A change of the module of a number.
use Rattle.std.proofs.Common.{◌≡◌, ℕ, zero, suc, ◌-◌, ◌<◌, ◌≤◌, List, length, set, Some, None, refl, arith}
use Rattle.load_port.proofs.Places.{update_found, update_none, update_missing, update_set}
use Rattle.robot_moves.specs.Modules.{module_at, change_module}
use Rattle.robot_moves.specs.declared.module.Module.{Module}

-- a module that is written
pub change_set : (number : ℕ) (modules : List Module) (new : Module) → 0 < number → number ≤ length modules → set modules (number - 1) new ≡ change_module number (λ _. new) modules
change_set zero modules new some within = absurd (omega (arith, some))
change_set (suc n) modules new some within =
    let place : suc n - 1 ≡ n = omega arith in
    rw place (update_set n modules new (omega (arith, within)))

-- a number that is that of none
pub change_past : (number : ℕ) (change : Module → Module) (modules : List Module) → length modules < number → change_module number change modules ≡ modules
change_past zero change modules past = absurd (omega (arith, past))
change_past (suc n) change modules past = update_none change n modules (omega (arith, past))

-- what the module becomes is all that counts of a change
pub change_found : (number : ℕ) (change : Module → Module) (modules : List Module) (found : Module) → module_at number modules ≡ Some found → change_module number (λ _. change found) modules ≡ change_module number change modules
change_found zero change modules found e = refl
change_found (suc n) change modules found e = update_found change n modules found e

pub change_missing : (number : ℕ) (change : Module → Module) (modules : List Module) → module_at number modules ≡ None → change_module number change modules ≡ modules
change_missing zero change modules e = refl
change_missing (suc n) change modules e = update_missing change n modules e

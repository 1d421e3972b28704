-- The ports by their numbers.
use Rattle.std.proofs.Common.{◌≡◌, ◌≤◌, List, [], ◌∷◌, length, take, refl, arith}
use Rattle.load_port.specs.declared.port.Port.{Port}
use Rattle.shop_floor.specs.Floor.{numbers_from}

pub all_numbers : (ports : List Port) → length ports ≤ 4 → take (length ports) (1 ∷ 2 ∷ 3 ∷ 4 ∷ []) ≡ numbers_from 1 ports
all_numbers [] few = refl
all_numbers (a ∷ []) few = refl
all_numbers (a ∷ (b ∷ [])) few = refl
all_numbers (a ∷ (b ∷ (c ∷ []))) few = refl
all_numbers (a ∷ (b ∷ (c ∷ (d ∷ [])))) few = refl
all_numbers (a ∷ (b ∷ (c ∷ (d ∷ (e ∷ ports))))) few = absurd (omega (arith, few))

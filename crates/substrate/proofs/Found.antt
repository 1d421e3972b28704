-- What is found, and what is read of it.
use Rattle.std.proofs.Common.{◌≡◌, Bor, Option, Some, None, is_some, option_map, option_copied, refl, subst}
use Rattle.gem_ids.specs.declared.numbers.LocId.{LocId}
use Rattle.substrate.specs.declared.registered.Registered.{Registered}

-- one is found where it is lent
pub some_shown : {T : Type 0} (o : Option (Bor T)) → is_some o ≡ is_some (option_copied o)
some_shown None = refl
some_shown (Some r) = refl

-- ---- the place of one that is found

pub found_placed : (o : Option Registered) (place : LocId) (P : LocId → Type 0) → option_map (λ r. r.at) o ≡ Some place → ((r : Registered) → o ≡ Some r → P r.at) → P place
found_placed None place P e follows = absurd (cc)
found_placed (Some r) place P e follows =
    let same : r.at ≡ place = cc in
    subst P same (follows r refl)

pub none_placed : (o : Option Registered) → option_map (λ r. r.at) o ≡ None → o ≡ None
none_placed None e = refl
none_placed (Some r) e = absurd (cc)

pub some_placed : (o : Option Registered) → is_some (option_map (λ r. r.at) o) ≡ is_some o
some_placed None = refl
some_placed (Some r) = refl

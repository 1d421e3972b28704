-- Which way a test went.
use Rattle.std.proofs.Common.{◌≡◌, Bool, true, false, ◌&&◌, if◌then◌else◌, Option, Some, None, refl}
use Rattle.std.specs.Option.{option_or}

pub went {ℓ} : {P : Type ℓ} {A : Type 0} (b : Bool) (x y z : A) → (b ≡ true → x ≡ z → P) → (b ≡ false → y ≡ z → P) → if b then x else y ≡ z → P
went true x y z at_x at_y here = at_x refl here
went false x y z at_x at_y here = at_y refl here

-- what holds of both ways holds of the one that was taken
pub either_way {ℓ} : {A : Type 0} (P : A → Type ℓ) (b : Bool) (x y : A) → P x → P y → P (if b then x else y)
either_way P true x y at_x at_y = at_x
either_way P false x y at_x at_y = at_y

-- the first of two that is there
pub or_went : {P A : Type 0} (x y : Option A) (z : A) → (x ≡ Some z → P) → (x ≡ None → y ≡ Some z → P) → option_or x y ≡ Some z → P
or_went (Some x) y z at_x at_y here = at_x here
or_went None y z at_x at_y here = at_y refl here

pub and_parts_of : (a b : Bool) → (a && b) ≡ true → (a ≡ true) × (b ≡ true)
and_parts_of true b h = (refl, h)
and_parts_of false b h = absurd (cc)

pub none_some {ℓ} : {P : Type ℓ} {A : Type 0} (x : A) → None ≡ Some x → P
none_some x here = absurd (cc)

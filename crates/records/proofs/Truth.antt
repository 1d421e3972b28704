-- Truth values of tests that are joined.
use Rattle.std.proofs.Common.{◌≡◌, Bool, true, false, true≢false, not, ◌&&◌, ◌||◌, Option, Some, None, is_some, option_map, refl, sym}

pub or_false : (a b : Bool) → (a || b) ≡ false → (a ≡ false) × (b ≡ false)
or_false true b h = absurd (true≢false h)
or_false false b h = (refl, h)

pub and_true : (a b : Bool) → (a && b) ≡ true → (a ≡ true) × (b ≡ true)
and_true true b h = (refl, h)
and_true false b h = absurd (true≢false (sym h))

pub not_true : (a : Bool) → not a ≡ true → a ≡ false
not_true true h = absurd (true≢false (sym h))
not_true false h = refl

-- what is made of something is there where it is
pub is_there : {A B : Type 0} (made : A → B) (found : Option A) → is_some (option_map made found) ≡ is_some found
is_there made None = refl
is_there made (Some x) = refl

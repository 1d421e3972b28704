-- Names as the keys of a map.
use Rattle.std.specs.Prelude.{◌≡◌, ℕ, true, List}
use Rattle.std.specs.Str.{bytes_eq}
use Rattle.std.specs.Hash as fed
use Rattle.std.proofs.Common.{ap}
use Rattle.std.proofs.lemmas.Slice.Eq.{bytes_eq-Decides}

-- equal names are hashed alike
pub same_input : (x y : List ℕ) → bytes_eq x y ≡ true → fed.slice fed.u8 x ≡ fed.slice fed.u8 y
same_input x y e = ap (fed.slice fed.u8) ((bytes_eq-Decides x y).0 e)

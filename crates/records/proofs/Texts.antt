-- Names.
use Rattle.std.proofs.Common.{◌≡◌, ℕ, true, List, bytes_eq}
use Rattle.std.proofs.lemmas.Cmp.{nat_list_eq_equiv}
use Rattle.std.proofs.lemmas.Slice.Eq.{bytes_eq-Decides}

-- names that are found to be equal are
pub same_name : (xs ys : List ℕ) → bytes_eq xs ys ≡ true → xs ≡ ys
same_name xs ys e = (bytes_eq-Decides xs ys).0 e

pub own_name : (xs : List ℕ) → bytes_eq xs xs ≡ true
own_name xs = nat_list_eq_equiv.refl xs

-- of two names either may come first
pub turned : (xs ys : List ℕ) → bytes_eq xs ys ≡ bytes_eq ys xs
turned xs ys = nat_list_eq_equiv.symm xs ys

-- What is picked of a list, one after another.
use Rattle.std.proofs.Common.{◌≡◌, ℕ, suc, ◌+◌, ◌<◌, Bool, true, false, List, [], ◌∷◌, ◌++◌, length, get_or, drop, filter, refl, sym, ap, ◌∙◌, add-one, drop-cons, append_assoc}

-- one that passes the test is picked
pub picked : (p : ℕ → Bool) (all found : List ℕ) (i d : ℕ) → i < length all → p (get_or all i d) ≡ true → filter p all ≡ found ++ filter p (drop i all) → filter p all ≡ (found ++ get_or all i d ∷ []) ++ filter p (drop (i + 1) all)
picked p all found i d l t so =
    rw add-one
    (so
    ∙ ap (λ (ns : List ℕ). found ++ filter p ns) (drop-cons all i d l)
    ∙ here
    ∙ sym (append_assoc found (get_or all i d ∷ []) (filter p (drop (suc i) all))))
  where
    here : found ++ filter p (get_or all i d ∷ drop (suc i) all) ≡ found ++ get_or all i d ∷ filter p (drop (suc i) all)
    here = rw t refl

-- another is not
pub passed : (p : ℕ → Bool) (all found : List ℕ) (i d : ℕ) → i < length all → p (get_or all i d) ≡ false → filter p all ≡ found ++ filter p (drop i all) → filter p all ≡ found ++ filter p (drop (i + 1) all)
passed p all found i d l t so = rw add-one (so ∙ ap (λ (ns : List ℕ). found ++ filter p ns) (drop-cons all i d l) ∙ here)
  where
    here : found ++ filter p (get_or all i d ∷ drop (suc i) all) ≡ found ++ filter p (drop (suc i) all)
    here = rw t refl

-- What is found in a list with one more behind.
use Rattle.std.proofs.Common.{◌≡◌, ℕ, ◌==◌, ◌||◌, Bool, true, false, if◌then◌else◌, List, [], ◌∷◌, ◌++◌, find, map, Option, Some, None, refl, sym, ◌∙◌, ap, subst}
use Rattle.std.specs.List.{list_any}
use Rattle.std.proofs.lemmas.Bool.Decides.{Decides-eqb}
use Rattle.gem_tables.specs.Table.{is_one_of}
use Rattle.place_laws.specs.Picture.{of_one}

module _ {A : Type 0} (t : A → Bool) where
  -- what is found among the first ones is found
  pub front : (xs ys : List A) → list_any t xs ≡ true → find t (xs ++ ys) ≡ find t xs
  front [] ys e = absurd (cc)
  front (x ∷ xs) ys e = of (t x) e (front xs ys) where
    of : (b : Bool) → (b || list_any t xs) ≡ true → (list_any t xs ≡ true → find t (xs ++ ys) ≡ find t xs) → (if b then Some x else find t (xs ++ ys)) ≡ (if b then Some x else find t xs)
    of true e rest = refl
    of false e rest = rest e

  -- where it is none of these, it may be the last
  pub behind : (xs : List A) (y : A) → list_any t xs ≡ false → find t (xs ++ y ∷ []) ≡ (if t y then Some y else None)
  behind [] y e = refl
  behind (x ∷ xs) y e = of (t x) e (behind xs y) where
    of : (b : Bool) → (b || list_any t xs) ≡ false → (list_any t xs ≡ false → find t (xs ++ y ∷ []) ≡ (if t y then Some y else None)) → (if b then Some x else find t (xs ++ y ∷ [])) ≡ (if t y then Some y else None)
    of true e rest = absurd (cc)
    of false e rest = rest e

  -- where it is not the last, it is looked for among the first ones
  pub not_last : (xs : List A) (y : A) → t y ≡ false → find t (xs ++ y ∷ []) ≡ find t xs
  not_last [] y e = ap (λ (b : Bool). if b then Some y else None) e
  not_last (x ∷ xs) y e = ap (λ (o : Option A). if t x then Some x else o) (not_last xs y e)

module _ {A : Type 0} (number : A → ℕ) where
  -- the numbers of a list with one more
  pub numbers_on : (xs : List A) (y : A) → map number (xs ++ y ∷ []) ≡ map number xs ++ number y ∷ []
  numbers_on [] y = refl
  numbers_on (x ∷ xs) y = ap (λ (ns : List ℕ). number x ∷ ns) (numbers_on xs y)

  among : (n : ℕ) (xs : List A) → list_any (λ x. number x == n) xs ≡ is_one_of (map number xs) n
  among n [] = refl
  among n (x ∷ xs) = ap (λ (b : Bool). (number x == n) || b) (among n xs)

  -- what is said of the one of a number, where the last has one that none has
  pub says_on : {B : Type 0} (else_ : B) (says : A → B) (xs : List A) (y : A) (n : ℕ) → number y ≡ n → is_one_of (map number xs) n ≡ false → (k : ℕ) → of_one else_ says (find (λ x. number x == k) (xs ++ y ∷ [])) ≡ (if k == n then says y else of_one else_ says (find (λ x. number x == k) xs))
  says_on else_ says xs y n is none k = by (k == n) refl where
    by : (b : Bool) → (k == n) ≡ b → of_one else_ says (find (λ x. number x == k) (xs ++ y ∷ [])) ≡ (if b then says y else of_one else_ says (find (λ x. number x == k) xs))
    by true e =
        let same : n ≡ k = sym ((Decides-eqb k n).0 e) in
        let hit : (number y == n) ≡ true = (Decides-eqb (number y) n).1 is in
        subst (λ (m : ℕ). of_one else_ says (find (λ x. number x == m) (xs ++ y ∷ [])) ≡ says y) same
        (ap (of_one else_ says) (behind (λ x. number x == n) xs y (among n xs ∙ none) ∙ ap (λ (b : Bool). if b then Some y else None) hit))
    by false e = ap (of_one else_ says) (not_last (λ x. number x == k) xs y (miss (number y == k) refl)) where
      miss : (c : Bool) → (number y == k) ≡ c → (number y == k) ≡ false
      miss true f = let same : k ≡ n = sym ((Decides-eqb (number y) k).0 f) ∙ is in let t = (Decides-eqb k n).1 same in absurd (cc)
      miss false f = f

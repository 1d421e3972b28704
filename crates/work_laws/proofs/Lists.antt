-- What lists, options and truth values tell.
use Rattle.std.proofs.Common.{◌≡◌, ◌≤◌, ◌<◌, ℕ, zero, suc, ◌+◌, ◌==◌, Bool, true, false, not, ◌||◌, ◌&&◌, if◌then◌else◌, List, [], ◌∷◌, Option, None, refl, subst, arith}
use Rattle.std.specs.List.{list_any, list_all}
use Rattle.std.proofs.lemmas.Bool.Decides.{Decides-eqb}
use Rattle.robot_moves.specs.Moves.{first_of}
use Rattle.shop_floor.proofs.AtRest.{neither}

-- ---- truth values and options

-- where what a test lets through is not there, and the test holds, it isn't
pub where_none : {A : Type 0} (b : Bool) (o : Option A) → (if b then o else None) ≡ None → b ≡ true → o ≡ None
where_none true o e is = e
where_none false o e is = absurd (cc)

-- ---- lists

-- where not all pass, one doesn't
pub not_all : {A : Type 0} (test : A → Bool) (xs : List A) → list_all test xs ≡ false → list_any (λ x. not (test x)) xs ≡ true
not_all test [] e = absurd (cc)
not_all test (x ∷ xs) e = of (test x) e (not_all test xs) where
  of : (b : Bool) → (b && list_all test xs) ≡ false → (list_all test xs ≡ false → list_any (λ y. not (test y)) xs ≡ true) → (not b || list_any (λ y. not (test y)) xs) ≡ true
  of true e rest = rest e
  of false e rest = refl

-- ---- what numbers give

-- where none of so many numbers gives anything, a number of them doesn't
pub none_of : {A : Type 0} (gives : ℕ → Option A) (first count n : ℕ) → first_of gives first count ≡ None → first ≤ n → n < first + count → gives n ≡ None
none_of gives first zero n e least most = absurd (omega (arith, least, most))
none_of gives first (suc count) n e least most =
    let both = neither (gives first) (first_of gives (first + 1) count) e in
    of (first == n) refl both.0 (λ other. none_of gives (first + 1) count n both.1 (omega (arith, least, other)) (omega (arith, most)))
  where
    of : (b : Bool) → (first == n) ≡ b → gives first ≡ None → ((first ≡ n → ⊥) → gives n ≡ None) → gives n ≡ None
    of true q here rest = subst (λ (k : ℕ). gives k ≡ None) ((Decides-eqb first n).0 q) here
    of false q here rest = rest (λ same. let t = (Decides-eqb first n).1 same in cc)

-- What is told of the entries of one seat alone, where those of the other seats tell nothing.
use Rattle.std.proofs.Common.{◌≡◌, ◌≢◌, ◌⊎◌, inl, inr, ℕ, ◌==◌, Bool, true, false, cond, List, [], ◌∷◌, ◌++◌, map, refl, sym, ◌∙◌, ap}
use Rattle.std.specs.List.{flat_map, AllByRecursion}
use Rattle.std.proofs.lemmas.Bool.{eq-eqb, ne_eqb}
use Rattle.std.proofs.lemmas.Bool.Decides.{eqb_tells}
use Rattle.std.proofs.lemmas.List.Folds.{flat_map-map}
use Rattle.tool_lock.specs.Turned.{own}

-- two numbers are the same or not
pub same_or_other : (a b : ℕ) → (a ≡ b) ⊎ (a ≢ b)
same_or_other a b = elim (eqb_tells a b) [
  | inl same ↦ inl same.1
  | inr other ↦ inr other.1
]

module _ {A : Type 0} where
  -- both parts of an empty list are empty
  first_empty : (xs ys : List A) → xs ++ ys ≡ [] → xs ≡ []
  first_empty [] ys e = refl
  first_empty (x ∷ xs) ys e = absurd (cc)

  second_empty : (xs ys : List A) → xs ++ ys ≡ [] → ys ≡ []
  second_empty [] ys e = e
  second_empty (x ∷ xs) ys e = absurd (cc)

-- where no element gives anything, nothing is given
pub all_none : {X A : Type 0} (f : X → List A) (xs : List X) → AllByRecursion (λ x. f x ≡ []) xs → flat_map f xs ≡ []
all_none f [] none = refl
all_none f (x ∷ xs) none = ap (λ l. l ++ flat_map f xs) none.0 ∙ all_none f xs none.1

module _ {E A : Type 0} (number : E → ℕ) (f : E → List A) where
  -- an entry of this number is the first of them, and one of another number is none of them
  own_here : (x : E) (xs : List E) (k : ℕ) → number x ≡ k → own number k (x ∷ xs) ≡ x ∷ own number k xs
  own_here x xs k same = ap (λ (b : Bool). cond b (x ∷ own number k xs) (own number k xs)) (eq-eqb (number x) k same)

  own_later : (x : E) (xs : List E) (k : ℕ) → number x ≢ k → own number k (x ∷ xs) ≡ own number k xs
  own_later x xs k other = ap (λ (b : Bool). cond b (x ∷ own number k xs) (own number k xs)) (ne_eqb (number x) k other)

  -- where those of a number tell nothing, the first of them tells nothing, and neither do the others
  none_here : (x : E) (xs : List E) (k : ℕ) → number x ≡ k → flat_map f (own number k (x ∷ xs)) ≡ [] → f x ≡ []
  none_here x xs k same none = first_empty (f x) (flat_map f (own number k xs)) (sym (ap (flat_map f) (own_here x xs k same)) ∙ none)

  none_later : (x : E) (xs : List E) (k : ℕ) → flat_map f (own number k (x ∷ xs)) ≡ [] → flat_map f (own number k xs) ≡ []
  none_later x xs k none = by (number x == k) none where
    by : (b : Bool) → flat_map f (cond b (x ∷ own number k xs) (own number k xs)) ≡ [] → flat_map f (own number k xs) ≡ []
    by true is = second_empty (f x) (flat_map f (own number k xs)) is
    by false is = is

  -- where those of all other numbers tell nothing, those of this one tell all
  only : (a : ℕ) (xs : List E) → ((k : ℕ) → k ≢ a → flat_map f (own number k xs) ≡ []) → flat_map f xs ≡ flat_map f (own number a xs)
  only a [] none = refl
  only a (x ∷ xs) none = by (same_or_other (number x) a) (only a xs (λ k other. none_later x xs k (none k other))) where
    by : (number x ≡ a) ⊎ (number x ≢ a) → flat_map f xs ≡ flat_map f (own number a xs)
        → flat_map f (x ∷ xs) ≡ flat_map f (own number a (x ∷ xs))
    by (inl same) rest = ap (λ (l : List A). f x ++ l) rest ∙ sym (ap (flat_map f) (own_here x xs a same))
    by (inr other) rest =
        ap (λ (l : List A). l ++ flat_map f xs) (none_here x xs (number x) refl (none (number x) other)) ∙ rest
        ∙ sym (ap (flat_map f) (own_later x xs a other))

module _ {E P A : Type 0} (seat : E → ℕ) (post : E → P) (h : P → List A) where
  -- what the posts of all seats tell is what those of one seat tell, where those of the others tell nothing
  pub at_seat : (a : ℕ) (xs : List E) → ((k : ℕ) → k ≢ a → flat_map h (map post (own seat k xs)) ≡ [])
      → flat_map (λ (x : E). h (post x)) xs ≡ flat_map h (map post (own seat a xs))
  at_seat a xs none =
      only seat (λ (x : E). h (post x)) a xs (λ k other. sym (flat_map-map h post (own seat k xs)) ∙ none k other)
      ∙ sym (flat_map-map h post (own seat a xs))

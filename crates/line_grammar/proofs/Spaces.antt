-- Where the first space of a text stands.
use Rattle.std.proofs.Common.{◌≡◌, ℕ, zero, suc, ◌+◌, ◌==◌, ◌⊎◌, List, [], ◌∷◌, ◌++◌, take, drop, refl, sym, ◌∙◌, ap, inl, inr, Option, Some, None, append-nil, arith}
use Rattle.std.proofs.lemmas.List.{take-append-drop}
use Rattle.std.proofs.lemmas.Bool.{ne_eqb, eq-eqb, cases_eq}
use Rattle.std.proofs.lemmas.Iterator.Adapters.{position_from-zero}
use Rattle.std.specs.List.{position, position_from}
use Rattle.line_grammar.specs.Reading.{before_space, from_space, up_to, from}

abbrev pub NoSpace : List ℕ → Type 0
NoSpace [] = Unit {0}
NoSpace (b ∷ bs) = (b ≡ 32 → ⊥) × NoSpace bs

-- nothing, or a space and more
abbrev pub Tail : List ℕ → Type 0
Tail tail = (tail ≡ []) ⊎ ((back : List ℕ) × (tail ≡ 32 ∷ back))

pub no_take : (n : ℕ) (t : List ℕ) → NoSpace t → NoSpace (take n t)
no_take zero t bare = tt
no_take (suc n) [] bare = tt
no_take (suc n) (b ∷ bs) bare = (bare.0, no_take n bs bare.1)

pub under : (t more f b : List ℕ) → NoSpace t → t ++ more ≡ f ++ 32 ∷ b → (rest : List ℕ) × (f ≡ t ++ rest)
under [] more f b bare same = (f, refl)
under (x ∷ xs) more [] b bare same = absurd (bare.0 (cc))
under (x ∷ xs) more (y ∷ ys) b bare same =
    let tails : xs ++ more ≡ ys ++ 32 ∷ b = cc in
    let heads : x ≡ y = cc in
    let (rest, is) = under xs more ys b bare.1 tails in
    (rest, cc)

pub same_split : (f g a b : List ℕ) → NoSpace f → NoSpace g → f ++ 32 ∷ a ≡ g ++ 32 ∷ b → (f ≡ g) × (a ≡ b)
same_split [] [] a b one other same = (refl, cc)
same_split [] (y ∷ ys) a b one other same = absurd (other.0 (cc))
same_split (x ∷ xs) [] a b one other same = absurd (one.0 (cc))
same_split (x ∷ xs) (y ∷ ys) a b one other same =
    let tails : xs ++ 32 ∷ a ≡ ys ++ 32 ∷ b = cc in
    let heads : x ≡ y = cc in
    let (fronts, backs) = same_split xs ys a b one.1 other.1 tails in
    (cc, backs)

pub no_split : (t f b : List ℕ) → NoSpace t → t ≡ f ++ 32 ∷ b → ⊥
no_split [] [] b bare same = cc
no_split [] (y ∷ ys) b bare same = cc
no_split (x ∷ xs) [] b bare same = bare.0 (cc)
no_split (x ∷ xs) (y ∷ ys) b bare same = no_split xs ys b bare.1 (cc)

pub split_of : (front tail f b : List ℕ) → NoSpace front → NoSpace f → Tail tail → front ++ tail ≡ f ++ 32 ∷ b → f ≡ front
split_of front tail f b bare other (inl none) same =
    absurd (no_split front f b bare (sym (append-nil front) ∙ (ap (λ (t : List ℕ). front ++ t) (sym none) ∙ same)))
split_of front tail f b bare other (inr (back, some)) same =
    sym (same_split front f back b bare other (ap (λ (t : List ℕ). front ++ t) (sym some) ∙ same)).0

-- the first space is so far from the front, or there is none
abbrev Found : ℕ → Option ℕ → List ℕ → Type 0
Found i None text = NoSpace text
Found i (Some n) text = (k : ℕ) × (n ≡ i + k) × NoSpace (take k text) × (back : List ℕ) × (drop k text ≡ 32 ∷ back)

one_more : (i x : ℕ) (xs : List ℕ) (o : Option ℕ) → (x ≡ 32 → ⊥) → Found (i + 1) o xs → Found i o (x ∷ xs)
one_more i x xs None not found = (not, found)
one_more i x xs (Some n) not (k, is, bare, back, at) = (suc k, omega arith, (not, bare), back, at)

found : (i : ℕ) (text : List ℕ) → Found i (position_from (λ b. b == 32) i text) text
found i [] = tt
found i (x ∷ xs) =
    elim (cases_eq x 32) [
      | inl is ↦ rw (eq-eqb x 32 is) (0, omega arith, tt, xs, ap (λ (b : ℕ). b ∷ xs) is)
      | inr not ↦ rw (ne_eqb x 32 not) (one_more i x xs _ not (found (i + 1) xs))
    ]

pub record Cut (text front tail : List ℕ) : Type 0 where
  pub whole : text ≡ front ++ tail
  pub bare : NoSpace front
  pub ends : Tail tail

cut_at : (text : List ℕ) (o : Option ℕ) → Found 0 o text → Cut text (up_to o text) (from o text)
cut_at text None bare = record { whole = sym (append-nil text); bare = bare; ends = inl refl }
cut_at text (Some n) (k, is, bare, back, at) =
    let same : n ≡ k = omega arith in
    rw same record { whole = sym (take-append-drop k text); bare = bare; ends = inr (back, at) }

pub cut : (text : List ℕ) → Cut text (before_space text) (from_space text)
unfolding before_space from_space
cut text = cut_at text (position (λ b. b == 32) text) (rw (position_from-zero (λ b. b == 32) text) (found 0 text))

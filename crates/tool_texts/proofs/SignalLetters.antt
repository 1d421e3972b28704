-- The letter behind `S ` tells which of the lines of the equipment it may be.
use Rattle.std.proofs.Common.{◌≡◌, ◌⊎◌, ℕ, ◌-◌, List, [], ◌∷◌, length, codes, Some, None, slice_get, Result, Ok, Err, refl, ap, subst, sym, ◌∙◌, inl, inr, arith}
use Rattle.std.proofs.lemmas.Bool.{cases_eq, ne_eqb}
use Rattle.tool_events.specs.declared.event.Signal.{Signal}
use Rattle.line_grammar.specs.Grammar.{Grammar, ◌or◌}
use Rattle.line_grammar.specs.Lines.{placed_line, removed_line, done_line, failed_line, down_line}
use Rattle.line_grammar.specs.Reading.{read, either_of, literal_at}
use Rattle.tool_texts.proofs.Leaving.{leave, then_nothing, again, alone}

-- the lines of the equipment
abbrev lines : Grammar Signal
lines = placed_line or removed_line or done_line or failed_line or down_line

-- a text begins with `S `, or leaves at the place that is told
begins : (total : ℕ) (text : List ℕ) → ((rest : List ℕ) × (text ≡ 83 ∷ 32 ∷ rest) × (literal_at (codes "S ") total text ≡ Ok rest))
    ⊎ ((place : ℕ) × (read lines total text ≡ Err place) × (literal_at (codes "S ") total text ≡ Err place))
unfolding placed_line removed_line done_line failed_line down_line literal_at
begins total [] = inr (total, leave 4 total, refl)
begins total (x ∷ []) = elim (cases_eq x 83) [
  | inl is ↦ inr (total, rw is (leave 4 total), rw is refl)
  | inr not ↦ inr (total - length (x ∷ []), rw (ne_eqb x 83 not) (leave 4 (total - length (x ∷ []))), rw (ne_eqb x 83 not) refl)
]
begins total (x ∷ y ∷ cs) = elim (cases_eq x 83) [
  | inl is ↦ elim (cases_eq y 32) [
    | inl space ↦ inl (cs, rw (is, space) refl, rw (is, space) refl)
    | inr not ↦ inr (total - length (y ∷ cs), rw (is, ne_eqb y 32 not) (leave 4 (total - length (y ∷ cs))), rw (is, ne_eqb y 32 not) refl)
  ]
  | inr not ↦ inr (total - length (x ∷ y ∷ cs), rw (ne_eqb x 83 not) (leave 4 (total - length (x ∷ y ∷ cs))), rw (ne_eqb x 83 not) refl)
]

front_is : (total : ℕ) (text rest : List ℕ) → literal_at (codes "S ") total text ≡ Ok rest → text ≡ 83 ∷ 32 ∷ rest
front_is total text rest is = elim (begins total text) [
  | inl (r, front, read) ↦ let same : r ≡ rest = cc in front ∙ ap (λ (t : List ℕ). 83 ∷ 32 ∷ t) same
  | inr (place, leaves, read) ↦ absurd cc
]

-- a text that does not begin so is none of the lines
pub no_signal : (total place : ℕ) (text : List ℕ) → literal_at (codes "S ") total text ≡ Err place → read (placed_line or removed_line or done_line or failed_line or down_line) total text ≡ Err place
no_signal total place text is = elim (begins total text) [
  | inl (r, front, read) ↦ absurd cc
  | inr (p, leaves, read) ↦ let same : p ≡ place = cc in leaves ∙ ap (λ (n : ℕ). Err n) same
]

pub placed_word : (total : ℕ) (text rest : List ℕ) → literal_at (codes "S ") total text ≡ Ok rest → slice_get rest 0 ≡ Some 112 → read (placed_line or removed_line or done_line or failed_line or down_line) total text ≡ either_of (read placed_line total text) (Err (total - length rest))
unfolding placed_line removed_line done_line failed_line down_line literal_at
placed_word total text rest is letter = subst (λ (t : List ℕ). read (placed_line or removed_line or done_line or failed_line or down_line) total t ≡ either_of (read placed_line total t) (Err (total - length rest))) (sym (front_is total text rest is)) (at rest letter)
  where
    at : (r : List ℕ) → slice_get r 0 ≡ Some 112 → read (placed_line or removed_line or done_line or failed_line or down_line) total (83 ∷ 32 ∷ r) ≡ either_of (read placed_line total (83 ∷ 32 ∷ r)) (Err (total - length r))
    at [] l = absurd cc
    at (b ∷ cs) l = let first : b ≡ 112 = cc in rw first (then_nothing 3 (total - length (112 ∷ cs)) (either_of (read placed_line total (83 ∷ 32 ∷ 112 ∷ cs)) (Err (total - length (112 ∷ cs)))) (again (total - length (112 ∷ cs)) (read placed_line total (83 ∷ 32 ∷ 112 ∷ cs))))

pub removed_word : (total : ℕ) (text rest : List ℕ) → literal_at (codes "S ") total text ≡ Ok rest → slice_get rest 0 ≡ Some 114 → read (placed_line or removed_line or done_line or failed_line or down_line) total text ≡ either_of (Err (total - length rest)) (read removed_line total text)
unfolding placed_line removed_line done_line failed_line down_line literal_at
removed_word total text rest is letter = subst (λ (t : List ℕ). read (placed_line or removed_line or done_line or failed_line or down_line) total t ≡ either_of (Err (total - length rest)) (read removed_line total t)) (sym (front_is total text rest is)) (at rest letter)
  where
    at : (r : List ℕ) → slice_get r 0 ≡ Some 114 → read (placed_line or removed_line or done_line or failed_line or down_line) total (83 ∷ 32 ∷ r) ≡ either_of (Err (total - length r)) (read removed_line total (83 ∷ 32 ∷ r))
    at [] l = absurd cc
    at (b ∷ cs) l = let first : b ≡ 114 = cc in rw first (alone 0 3 (total - length (114 ∷ cs)) (read removed_line total (83 ∷ 32 ∷ 114 ∷ cs)))

pub done_down_words : (total : ℕ) (text rest : List ℕ) → literal_at (codes "S ") total text ≡ Ok rest → slice_get rest 0 ≡ Some 100 → read (placed_line or removed_line or done_line or failed_line or down_line) total text ≡ either_of (either_of (Err (total - length rest)) (read done_line total text)) (read down_line total text)
unfolding placed_line removed_line done_line failed_line down_line literal_at
done_down_words total text rest is letter = subst (λ (t : List ℕ). read (placed_line or removed_line or done_line or failed_line or down_line) total t ≡ either_of (either_of (Err (total - length rest)) (read done_line total t)) (read down_line total t)) (sym (front_is total text rest is)) (at rest letter)
  where
    at : (r : List ℕ) → slice_get r 0 ≡ Some 100 → read (placed_line or removed_line or done_line or failed_line or down_line) total (83 ∷ 32 ∷ r) ≡ either_of (either_of (Err (total - length r)) (read done_line total (83 ∷ 32 ∷ r))) (read down_line total (83 ∷ 32 ∷ r))
    at [] l = absurd cc
    at (b ∷ cs) l = let first : b ≡ 100 = cc in rw first (ap (λ (s : Result Signal ℕ). either_of s (read down_line total (83 ∷ 32 ∷ 100 ∷ cs))) (alone 1 1 (total - length (100 ∷ cs)) (read done_line total (83 ∷ 32 ∷ 100 ∷ cs))))

pub failed_word : (total : ℕ) (text rest : List ℕ) → literal_at (codes "S ") total text ≡ Ok rest → slice_get rest 0 ≡ Some 102 → read (placed_line or removed_line or done_line or failed_line or down_line) total text ≡ either_of (Err (total - length rest)) (read failed_line total text)
unfolding placed_line removed_line done_line failed_line down_line literal_at
failed_word total text rest is letter = subst (λ (t : List ℕ). read (placed_line or removed_line or done_line or failed_line or down_line) total t ≡ either_of (Err (total - length rest)) (read failed_line total t)) (sym (front_is total text rest is)) (at rest letter)
  where
    at : (r : List ℕ) → slice_get r 0 ≡ Some 102 → read (placed_line or removed_line or done_line or failed_line or down_line) total (83 ∷ 32 ∷ r) ≡ either_of (Err (total - length r)) (read failed_line total (83 ∷ 32 ∷ r))
    at [] l = absurd cc
    at (b ∷ cs) l = let first : b ≡ 102 = cc in rw first (alone 2 1 (total - length (102 ∷ cs)) (read failed_line total (83 ∷ 32 ∷ 102 ∷ cs)))

-- no word is empty
pub no_words : (total : ℕ) (text rest : List ℕ) → literal_at (codes "S ") total text ≡ Ok rest → slice_get rest 0 ≡ None → read (placed_line or removed_line or done_line or failed_line or down_line) total text ≡ Err (total - length rest)
unfolding placed_line removed_line done_line failed_line down_line literal_at
no_words total text rest is none = subst (λ (t : List ℕ). read (placed_line or removed_line or done_line or failed_line or down_line) total t ≡ Err (total - length rest)) (sym (front_is total text rest is)) (at rest none)
  where
    at : (r : List ℕ) → slice_get r 0 ≡ None → read (placed_line or removed_line or done_line or failed_line or down_line) total (83 ∷ 32 ∷ r) ≡ Err (total - length r)
    at [] n = let whole : total - length {A = ℕ} [] ≡ total = omega arith in rw whole (leave 4 total)
    at (b ∷ cs) n = absurd cc

-- and none begins with another letter
pub other_words : (total letter : ℕ) (text rest : List ℕ) → literal_at (codes "S ") total text ≡ Ok rest → slice_get rest 0 ≡ Some letter → (letter ≡ 112 → ⊥) → (letter ≡ 114 → ⊥) → (letter ≡ 100 → ⊥) → (letter ≡ 102 → ⊥) → read (placed_line or removed_line or done_line or failed_line or down_line) total text ≡ Err (total - length rest)
unfolding placed_line removed_line done_line failed_line down_line literal_at
other_words total letter text rest is first p r d f = subst (λ (t : List ℕ). read (placed_line or removed_line or done_line or failed_line or down_line) total t ≡ Err (total - length rest)) (sym (front_is total text rest is)) (at rest first)
  where
    at : (t : List ℕ) → slice_get t 0 ≡ Some letter → read (placed_line or removed_line or done_line or failed_line or down_line) total (83 ∷ 32 ∷ t) ≡ Err (total - length t)
    at [] l = absurd cc
    at (b ∷ cs) l =
        let same : b ≡ letter = cc in
        rw (same, ne_eqb letter 112 p, ne_eqb letter 114 r, ne_eqb letter 100 d, ne_eqb letter 102 f) (leave 4 (total - length (letter ∷ cs)))

-- What a map gives, with one value anew.
use Rattle.std.proofs.Common.{◌≡◌, ℕ, ◌==◌, Bool, true, false, cond, refl, sym, ap, ◌∙◌, ◌⊎◌, inl, inr}
use Rattle.std.proofs.lemmas.Bool.Decides.{Decides-eqb, not_from_Decides}
use Rattle.floor_moves.specs.Floor.{set}

-- a map that was changed gives the new value at that place, and else the old one
pub set_tells : {A : Type 0} (n m : ℕ) (value : A) (f : ℕ → A) (x : A) → set n value f m ≡ x → ((m ≡ n) × (value ≡ x)) ⊎ ((m ≡ n → ⊥) × (f m ≡ x))
set_tells n m value f x e = by (m == n) refl e
  where
    by : (b : Bool) → (m == n) ≡ b → cond b value (f m) ≡ x → ((m ≡ n) × (value ≡ x)) ⊎ ((m ≡ n → ⊥) × (f m ≡ x))
    by true q e = inl ((Decides-eqb m n).0 q, e)
    by false q e = inr (not_from_Decides (m == n) (Decides-eqb m n) q, e)

pub set_here : {A : Type 0} (n : ℕ) (value : A) (f : ℕ → A) → set n value f n ≡ value
set_here n value f = let same : (n == n) ≡ true = (Decides-eqb n n).1 refl in ap (λ (b : Bool). cond b value (f n)) same

pub set_else : {A : Type 0} (n m : ℕ) (value : A) (f : ℕ → A) → (m ≡ n → ⊥) → set n value f m ≡ f m
set_else n m value f other = by (m == n) refl
  where
    by : (b : Bool) → (m == n) ≡ b → cond b value (f m) ≡ f m
    by true q = absurd (other ((Decides-eqb m n).0 q))
    by false q = refl

-- by cases: what holds of the new value, and of the old ones elsewhere, holds of each
pub set_both : {A : Type 0} (n m : ℕ) (value : A) (f : ℕ → A) (P : A → Type 0) → (m ≡ n → P value) → ((m ≡ n → ⊥) → P (f m)) → P (set n value f m)
set_both n m value f P new old = by (m == n) refl
  where
    by : (b : Bool) → (m == n) ≡ b → P (cond b value (f m))
    by true q = new ((Decides-eqb m n).0 q)
    by false q = old (not_from_Decides (m == n) (Decides-eqb m n) q)

-- a view of the values sees the same, where the new value looks as the old one
pub set_view : {A B : Type 0} (n m : ℕ) (value : A) (f : ℕ → A) (view : A → B) → view value ≡ view (f n) → view (set n value f m) ≡ view (f m)
set_view n m value f view same = by (m == n) refl
  where
    by : (b : Bool) → (m == n) ≡ b → view (cond b value (f m)) ≡ view (f m)
    by true q = let is : m ≡ n = (Decides-eqb m n).0 q in same ∙ ap (λ (k : ℕ). view (f k)) (sym is)
    by false q = refl

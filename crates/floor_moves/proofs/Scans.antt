-- What scans of lists tell.
use Rattle.std.proofs.Common.{◌≡◌, ℕ, ◌==◌, Bool, true, false, ◌||◌, List, [], ◌∷◌, ◌++◌, filter, find, Some, None, cond, refl, sym, ap, subst, ◌∙◌, ◌⊎◌, inl, inr}
use Rattle.std.specs.List.{list_any}
use Rattle.std.proofs.lemmas.Bool.{or_right, or_parts, false_from_ne_true}
use Rattle.std.proofs.lemmas.Bool.Decides.{Decides-eqb, not_from_Decides}
use Rattle.gem_tables.specs.Table.{is_one_of}
use Rattle.floor_moves.specs.Valid.{IsDistinct}

-- a number is the first of a list, or one of the others
pub one_of_tells : (x : ℕ) (xs : List ℕ) (y : ℕ) → is_one_of (x ∷ xs) y ≡ true → (y ≡ x) ⊎ (is_one_of xs y ≡ true)
one_of_tells x xs y e = by (x == y) refl e
  where
    by : (b : Bool) → (x == y) ≡ b → (b || is_one_of xs y) ≡ true → (y ≡ x) ⊎ (is_one_of xs y ≡ true)
    by true q f = inl (sym ((Decides-eqb x y).0 q))
    by false q f = inr f

pub first_of : (x : ℕ) (xs : List ℕ) → is_one_of (x ∷ xs) x ≡ true
first_of x xs = ap (λ (b : Bool). b || is_one_of xs x) ((Decides-eqb x x).1 refl)

pub any_tells : (p : ℕ → Bool) (xs : List ℕ) → list_any p xs ≡ true → (x : ℕ) × (is_one_of xs x ≡ true) × (p x ≡ true)
any_tells p [] e = absurd (cc)
any_tells p (x ∷ xs) e = by (p x) refl e (any_tells p xs)
  where
    by : (b : Bool) → p x ≡ b → (b || list_any p xs) ≡ true → (list_any p xs ≡ true → (y : ℕ) × (is_one_of xs y ≡ true) × (p y ≡ true)) → (y : ℕ) × (is_one_of (x ∷ xs) y ≡ true) × (p y ≡ true)
    by true r g rest = (x, first_of x xs, r)
    by false r g rest = let t = rest g in (t.0, or_right (x == t.0) (is_one_of xs t.0) t.1, t.2)

pub any_none : (p : ℕ → Bool) (xs : List ℕ) → list_any p xs ≡ false → (x : ℕ) → is_one_of xs x ≡ true → p x ≡ false
any_none p [] e x i = absurd (cc)
any_none p (y ∷ ys) e x i = by (one_of_tells y ys x i) (λ is. any_none p ys (or_parts (p y) (list_any p ys) e).1 x is)
  where
    by : (x ≡ y) ⊎ (is_one_of ys x ≡ true) → (is_one_of ys x ≡ true → p x ≡ false) → p x ≡ false
    by (inl same) rest = ap p same ∙ (or_parts (p y) (list_any p ys) e).0
    by (inr is) rest = rest is

pub find_tells : (p : ℕ → Bool) (xs : List ℕ) (x : ℕ) → find p xs ≡ Some x → (is_one_of xs x ≡ true) × (p x ≡ true)
find_tells p [] x e = absurd (cc)
find_tells p (y ∷ ys) x e = by (p y) refl e (find_tells p ys x)
  where
    by : (b : Bool) → p y ≡ b → cond b (Some y) (find p ys) ≡ Some x → (find p ys ≡ Some x → (is_one_of ys x ≡ true) × (p x ≡ true)) → (is_one_of (y ∷ ys) x ≡ true) × (p x ≡ true)
    by true r f rest = let same : y ≡ x = cc in (subst (λ (k : ℕ). is_one_of (y ∷ ys) k ≡ true) same (first_of y ys), ap p (sym same) ∙ r)
    by false r f rest = let t = rest f in (or_right (y == x) (is_one_of ys x) t.0, t.1)

pub find_none : (p : ℕ → Bool) (xs : List ℕ) → find p xs ≡ None → (x : ℕ) → is_one_of xs x ≡ true → p x ≡ false
find_none p [] e x i = absurd (cc)
find_none p (y ∷ ys) e x i = by (p y) refl e (one_of_tells y ys x i) (find_none p ys)
  where
    by : (b : Bool) → p y ≡ b → cond b (Some y) (find p ys) ≡ None → (x ≡ y) ⊎ (is_one_of ys x ≡ true) → (find p ys ≡ None → (k : ℕ) → is_one_of ys k ≡ true → p k ≡ false) → p x ≡ false
    by true r f w rest = absurd (cc)
    by false r f (inl same) rest = ap p same ∙ r
    by false r f (inr is) rest = rest f x is

-- ---- what a list is without some of it

pub filter_tells : (t : ℕ → Bool) (ns : List ℕ) (n : ℕ) → is_one_of (filter t ns) n ≡ true → (is_one_of ns n ≡ true) × (t n ≡ true)
filter_tells t [] n e = absurd (cc)
filter_tells t (m ∷ ms) n e = by (t m) refl e (filter_tells t ms n)
  where
    by : (b : Bool) → t m ≡ b → is_one_of (cond b (m ∷ filter t ms) (filter t ms)) n ≡ true → (is_one_of (filter t ms) n ≡ true → (is_one_of ms n ≡ true) × (t n ≡ true)) → (is_one_of (m ∷ ms) n ≡ true) × (t n ≡ true)
    by false q f rest = let w = rest f in (or_right (m == n) (is_one_of ms n) w.0, w.1)
    by true q f rest = first (one_of_tells m (filter t ms) n f)
      where
        first : (n ≡ m) ⊎ (is_one_of (filter t ms) n ≡ true) → (is_one_of (m ∷ ms) n ≡ true) × (t n ≡ true)
        first (inl same) = (subst (λ (i : ℕ). is_one_of (m ∷ ms) i ≡ true) (sym same) (first_of m ms), ap t same ∙ q)
        first (inr u) = let w = rest u in (or_right (m == n) (is_one_of ms n) w.0, w.1)

pub filter_keeps : (t : ℕ → Bool) (ns : List ℕ) (n : ℕ) → is_one_of ns n ≡ true → t n ≡ true → is_one_of (filter t ns) n ≡ true
filter_keeps t [] n e q = e
filter_keeps t (m ∷ ms) n e q = by (t m) refl (one_of_tells m ms n e) (λ u. filter_keeps t ms n u q)
  where
    by : (b : Bool) → t m ≡ b → (n ≡ m) ⊎ (is_one_of ms n ≡ true) → (is_one_of ms n ≡ true → is_one_of (filter t ms) n ≡ true) → is_one_of (cond b (m ∷ filter t ms) (filter t ms)) n ≡ true
    by true r (inl same) rest = subst (λ (i : ℕ). is_one_of (m ∷ filter t ms) i ≡ true) (sym same) (first_of m (filter t ms))
    by true r (inr u) rest = or_right (m == n) (is_one_of (filter t ms) n) (rest u)
    by false r (inl same) rest = absurd (let z : t m ≡ true = ap t (sym same) ∙ q in cc)
    by false r (inr u) rest = rest u

pub filter_distinct : (t : ℕ → Bool) (ns : List ℕ) → IsDistinct ns → IsDistinct (filter t ns)
filter_distinct t [] d = tt
filter_distinct t (m ∷ ms) d = by (t m) (filter_distinct t ms d.1)
  where
    by : (b : Bool) → IsDistinct (filter t ms) → IsDistinct (cond b (m ∷ filter t ms) (filter t ms))
    by true rest = (false_from_ne_true (is_one_of (filter t ms) m) (λ u. let w = (filter_tells t ms m u).0 in let f = d.0 in cc), rest)
    by false rest = rest

-- ---- what a list is with one behind it

pub one_of_behind : (ns : List ℕ) (x n : ℕ) → is_one_of (ns ++ x ∷ []) n ≡ true → (n ≡ x) ⊎ (is_one_of ns n ≡ true)
one_of_behind [] x n e = one_of_tells x [] n e
one_of_behind (m ∷ ms) x n e = by (one_of_tells m (ms ++ x ∷ []) n e) (one_of_behind ms x n)
  where
    by : (n ≡ m) ⊎ (is_one_of (ms ++ x ∷ []) n ≡ true) → (is_one_of (ms ++ x ∷ []) n ≡ true → (n ≡ x) ⊎ (is_one_of ms n ≡ true)) → (n ≡ x) ⊎ (is_one_of (m ∷ ms) n ≡ true)
    by (inl same) rest = inr (subst (λ (k : ℕ). is_one_of (m ∷ ms) k ≡ true) (sym same) (first_of m ms))
    by (inr t) rest = last (rest t)
      where
        last : (n ≡ x) ⊎ (is_one_of ms n ≡ true) → (n ≡ x) ⊎ (is_one_of (m ∷ ms) n ≡ true)
        last (inl u) = inl u
        last (inr u) = inr (or_right (m == n) (is_one_of ms n) u)

pub one_of_front : (ns : List ℕ) (x n : ℕ) → is_one_of ns n ≡ true → is_one_of (ns ++ x ∷ []) n ≡ true
one_of_front [] x n e = absurd (cc)
one_of_front (m ∷ ms) x n e = by (one_of_tells m ms n e) (one_of_front ms x n)
  where
    by : (n ≡ m) ⊎ (is_one_of ms n ≡ true) → (is_one_of ms n ≡ true → is_one_of (ms ++ x ∷ []) n ≡ true) → is_one_of (m ∷ (ms ++ x ∷ [])) n ≡ true
    by (inl same) rest = subst (λ (k : ℕ). is_one_of (m ∷ (ms ++ x ∷ [])) k ≡ true) (sym same) (first_of m (ms ++ x ∷ []))
    by (inr t) rest = or_right (m == n) (is_one_of (ms ++ x ∷ []) n) (rest t)

pub one_of_last : (ns : List ℕ) (x : ℕ) → is_one_of (ns ++ x ∷ []) x ≡ true
one_of_last [] x = first_of x []
one_of_last (m ∷ ms) x = or_right (m == x) (is_one_of (ms ++ x ∷ []) x) (one_of_last ms x)

pub distinct_behind : (ns : List ℕ) (x : ℕ) → IsDistinct ns → is_one_of ns x ≡ false → IsDistinct (ns ++ x ∷ [])
distinct_behind [] x d e = (refl, tt)
distinct_behind (m ∷ ms) x d e = (false_from_ne_true (is_one_of (ms ++ x ∷ []) m) (λ t. by (one_of_behind ms x m t)), distinct_behind ms x d.1 (or_parts (m == x) (is_one_of ms x) e).1)
  where
    by : (m ≡ x) ⊎ (is_one_of ms m ≡ true) → ⊥
    by (inl same) = not_from_Decides (m == x) (Decides-eqb m x) (or_parts (m == x) (is_one_of ms x) e).0 same
    by (inr t) = let f = d.0 in cc

-- Sums over the substrates that are kept and counted.
use Rattle.std.proofs.Common.{◌≡◌, ℕ, ◌+◌, ◌==◌, Bool, true, false, List, [], ◌∷◌, ◌++◌, filter, cond, refl, sym, ap, subst, ◌∙◌, ◌⊎◌, inl, inr, arith}
use Rattle.std.proofs.lemmas.Bool.{or_right}
use Rattle.gem_tables.specs.Table.{is_one_of}
use Rattle.floor_moves.specs.Sums.{sum_of}
use Rattle.floor_moves.specs.Valid.{IsDistinct}
use Rattle.floor_moves.proofs.Scans.{one_of_tells, first_of}

-- the same, where each that is counted weighs the same
pub sum_same : (counted : ℕ → Bool) (w u : ℕ → ℕ) (ns : List ℕ) → ((n : ℕ) → is_one_of ns n ≡ true → counted n ≡ true → w n ≡ u n) → sum_of w (filter counted ns) ≡ sum_of u (filter counted ns)
sum_same counted w u [] same = refl
sum_same counted w u (n ∷ ns) same = by (counted n) refl (sum_same counted w u ns (λ m i. same m (or_right (n == m) (is_one_of ns m) i)))
  where
    by : (b : Bool) → counted n ≡ b → sum_of w (filter counted ns) ≡ sum_of u (filter counted ns) → sum_of w (cond b (n ∷ filter counted ns) (filter counted ns)) ≡ sum_of u (cond b (n ∷ filter counted ns) (filter counted ns))
    by true e rest = let here = same n (first_of n ns) e in omega (arith, here, rest)
    by false e rest = rest

-- one less, where one of them weighs one less
pub sum_falls : (counted : ℕ → Bool) (w u : ℕ → ℕ) (n : ℕ) (ns : List ℕ) → IsDistinct ns → is_one_of ns n ≡ true → counted n ≡ true → w n ≡ u n + 1 → ((m : ℕ) → (m ≡ n → ⊥) → w m ≡ u m) → sum_of u (filter counted ns) + 1 ≡ sum_of w (filter counted ns)
sum_falls counted w u n [] d i c less same = absurd (cc)
sum_falls counted w u n (m ∷ ns) d i c less same = by (counted m) refl (one_of_tells m ns n i) (λ t. sum_falls counted w u n ns d.1 t c less same)
  where
    not_in : n ≡ m → (k : ℕ) → is_one_of ns k ≡ true → k ≡ n → ⊥
    not_in e k j is = let yes : is_one_of ns m ≡ true = subst (λ (x : ℕ). is_one_of ns x ≡ true) (is ∙ e) j in let never = d.0 in cc

    differs : is_one_of ns n ≡ true → m ≡ n → ⊥
    differs t e = let yes : is_one_of ns m ≡ true = subst (λ (x : ℕ). is_one_of ns x ≡ true) (sym e) t in let never = d.0 in cc

    by : (b : Bool) → counted m ≡ b → (n ≡ m) ⊎ (is_one_of ns n ≡ true) → (is_one_of ns n ≡ true → sum_of u (filter counted ns) + 1 ≡ sum_of w (filter counted ns)) → sum_of u (cond b (m ∷ filter counted ns) (filter counted ns)) + 1 ≡ sum_of w (cond b (m ∷ filter counted ns) (filter counted ns))
    by true q (inl e) rest =
        let others = sum_same counted w u ns (λ k j _. same k (not_in e k j)) in
        let here : w m ≡ u m + 1 = subst (λ (x : ℕ). w x ≡ u x + 1) e less in
        omega (arith, others, here)
    by true q (inr t) rest = let others = rest t in let here : w m ≡ u m = same m (differs t) in omega (arith, others, here)
    by false q (inl e) rest = absurd (let yes : counted m ≡ true = ap counted (sym e) ∙ c in cc)
    by false q (inr t) rest = rest t

-- nothing, where each weighs nothing
pub sum_is_zero : (counted : ℕ → Bool) (w : ℕ → ℕ) (ns : List ℕ) → ((n : ℕ) → is_one_of ns n ≡ true → counted n ≡ true → w n ≡ 0) → sum_of w (filter counted ns) ≡ 0
sum_is_zero counted w [] each = refl
sum_is_zero counted w (n ∷ ns) each = by (counted n) refl (sum_is_zero counted w ns (λ m i. each m (or_right (n == m) (is_one_of ns m) i)))
  where
    by : (b : Bool) → counted n ≡ b → sum_of w (filter counted ns) ≡ 0 → sum_of w (cond b (n ∷ filter counted ns) (filter counted ns)) ≡ 0
    by true e rest = let here = each n (first_of n ns) e in omega (arith, here, rest)
    by false e rest = rest

-- and only there
pub sum_zero : (counted : ℕ → Bool) (w : ℕ → ℕ) (ns : List ℕ) → sum_of w (filter counted ns) ≡ 0 → (n : ℕ) → is_one_of ns n ≡ true → counted n ≡ true → w n ≡ 0
sum_zero counted w [] z n i c = absurd (cc)
sum_zero counted w (m ∷ ns) z n i c = by (counted m) refl z (one_of_tells m ns n i) (λ y t. sum_zero counted w ns y n t c)
  where
    by : (b : Bool) → counted m ≡ b → sum_of w (cond b (m ∷ filter counted ns) (filter counted ns)) ≡ 0 → (n ≡ m) ⊎ (is_one_of ns n ≡ true) → (sum_of w (filter counted ns) ≡ 0 → is_one_of ns n ≡ true → w n ≡ 0) → w n ≡ 0
    by true q y (inl e) rest = let here : w m ≡ 0 = omega (arith, y) in ap w e ∙ here
    by true q y (inr t) rest = rest (omega (arith, y)) t
    by false q y (inl e) rest = absurd (let yes : counted m ≡ true = ap counted (sym e) ∙ c in cc)
    by false q y (inr t) rest = rest y t

-- the same, with one behind that isn't counted
pub sum_behind : (counted : ℕ → Bool) (w : ℕ → ℕ) (ns : List ℕ) (x : ℕ) → counted x ≡ false → sum_of w (filter counted (ns ++ x ∷ [])) ≡ sum_of w (filter counted ns)
sum_behind counted w [] x e = ap (λ (b : Bool). sum_of w (cond b (x ∷ []) [])) e
sum_behind counted w (n ∷ ns) x e = by (counted n) (sum_behind counted w ns x e)
  where
    by : (b : Bool) → sum_of w (filter counted (ns ++ x ∷ [])) ≡ sum_of w (filter counted ns) → sum_of w (cond b (n ∷ filter counted (ns ++ x ∷ [])) (filter counted (ns ++ x ∷ []))) ≡ sum_of w (cond b (n ∷ filter counted ns) (filter counted ns))
    by true rest = ap (λ (k : ℕ). w n + k) rest
    by false rest = rest

-- the same, without some that weigh nothing
pub sum_left : (counted t : ℕ → Bool) (w u : ℕ → ℕ) (ns : List ℕ) → ((n : ℕ) → is_one_of ns n ≡ true → counted n ≡ true → t n ≡ true → u n ≡ w n) → ((n : ℕ) → is_one_of ns n ≡ true → counted n ≡ true → t n ≡ false → w n ≡ 0) → sum_of u (filter counted (filter t ns)) ≡ sum_of w (filter counted ns)
sum_left counted t w u [] same none = refl
sum_left counted t w u (n ∷ ns) same none =
    by (t n) refl (counted n) refl (sum_left counted t w u ns (λ m i. same m (or_right (n == m) (is_one_of ns m) i)) (λ m i. none m (or_right (n == m) (is_one_of ns m) i)))
  where
    by_test : (b : Bool) → counted n ≡ b → sum_of u (filter counted (n ∷ filter t ns)) ≡ sum_of u (cond b (n ∷ filter counted (filter t ns)) (filter counted (filter t ns)))
    by_test b e = ap (λ (x : Bool). sum_of u (cond x (n ∷ filter counted (filter t ns)) (filter counted (filter t ns)))) e

    by : (b : Bool) → t n ≡ b → (c : Bool) → counted n ≡ c → sum_of u (filter counted (filter t ns)) ≡ sum_of w (filter counted ns) → sum_of u (filter counted (cond b (n ∷ filter t ns) (filter t ns))) ≡ sum_of w (cond c (n ∷ filter counted ns) (filter counted ns))
    by true q true r rest =
        let here = same n (first_of n ns) r q in
        let both : u n + sum_of u (filter counted (filter t ns)) ≡ w n + sum_of w (filter counted ns) = omega (arith, here, rest) in
        by_test true r ∙ both
    by true q false r rest = by_test false r ∙ rest
    by false q true r rest = let here = none n (first_of n ns) r q in omega (arith, here, rest)
    by false q false r rest = rest

-- What a firing at one object does to a list of objects.
use Rattle.std.proofs.Common.{◌≡◌, ℕ, zero, suc, ◌+◌, ◌<◌, List, [], ◌∷◌, map, length, Some, slice_get, refl, ap, sum_by, arith}
use Rattle.std.proofs.lemmas.List.Sums.{sum_by-cons}
use Rattle.gem_tables.specs.Table.{update_at}

-- a view of the objects sees the change at the same place
pub map_update : {O V : Type 0} (view : O → V) (change : O → O) (changed : V → V) (place : ℕ) (objects : List O) → ((x : O) → view (change x) ≡ changed (view x)) → map view (update_at place change objects) ≡ update_at place changed (map view objects)
map_update view change changed zero [] f = refl
map_update view change changed (suc place) [] f = refl
map_update view change changed zero (x ∷ xs) f = ap (λ v. v ∷ map view xs) (f x)
map_update view change changed (suc place) (x ∷ xs) f = ap (λ vs. view x ∷ vs) (map_update view change changed place xs f)

-- as many objects as before
pub length_update : {O : Type 0} (change : O → O) (place : ℕ) (objects : List O) → length (update_at place change objects) ≡ length objects
length_update change zero [] = refl
length_update change (suc place) [] = refl
length_update change zero (x ∷ xs) = refl
length_update change (suc place) (x ∷ xs) = ap suc (length_update change place xs)

-- where the weight of the changed object falls, that of all falls
pub ready_falls : {O : Type 0} (weight : O → ℕ) (change : O → O) (place : ℕ) (objects : List O) (object : O) → slice_get objects place ≡ Some object → weight (change object) < weight object → sum_by weight (update_at place change objects) < sum_by weight objects
ready_falls weight change place [] object s l = absurd (cc)
ready_falls weight change zero (x ∷ xs) object s l =
    let same : x ≡ object = cc in
    let before : sum_by weight (x ∷ xs) ≡ weight x + sum_by weight xs = sum_by-cons weight x xs in
    let after : sum_by weight (change x ∷ xs) ≡ weight (change x) + sum_by weight xs = sum_by-cons weight (change x) xs in
    let less : weight (change x) < weight x = rw same l in
    omega (arith, before, after, less)
ready_falls weight change (suc place) (x ∷ xs) object s l =
    let before : sum_by weight (x ∷ xs) ≡ weight x + sum_by weight xs = sum_by-cons weight x xs in
    let after : sum_by weight (x ∷ update_at place change xs) ≡ weight x + sum_by weight (update_at place change xs) = sum_by-cons weight x (update_at place change xs) in
    let rest = ready_falls weight change place xs object s l in
    omega (arith, before, after, rest)
